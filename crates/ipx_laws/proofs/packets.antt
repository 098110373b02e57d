-- What packets say in whole runs, and what is heard of them.
pub mod BroadcastEachSecond
pub mod NothingGoesBack
pub mod PagesAreHeard
pub mod RoutesOrSilence
pub mod SentOnSaysTheSame
