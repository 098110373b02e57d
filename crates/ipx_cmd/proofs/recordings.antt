-- The runs of `decode` over a recording, part by part.
pub mod BetweenTwoParts
pub mod BytesBehindARecording
pub mod HowARecordingEnds
