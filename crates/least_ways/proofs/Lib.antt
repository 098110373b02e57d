pub mod RoundsInMemory
pub mod TablesInMemory
