-- The runs of `decode`, record by record.
pub mod BetweenTwoRecords
pub mod BytesBehindACapture
pub mod HowARunEnds
pub mod RecordsInFront
