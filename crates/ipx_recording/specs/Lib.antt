-- what stands at the front of the bytes, and what is made of it
pub mod Met
pub mod Recorded
pub mod Steps
pub mod Blocks
pub mod Chain
pub mod Differs
pub mod Further
-- packets behind link headers
pub mod Carried
