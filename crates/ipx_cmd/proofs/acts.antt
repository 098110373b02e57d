-- What lines make of the machines that they act on.
pub mod AnotherPortMayBeNamed
pub mod AnotherRouterMayBeNamed
pub mod EventsOneAfterAnother
pub mod LatestNamed
pub mod NodesThatMeet
pub mod RoutersAreAdded
pub mod RoutersOfTheInternet
pub mod SecondsOfALine
pub mod ValuesMakeARouter
pub mod WhatALineMakes
pub mod WhatAnInternetsLineMakes
pub mod WordsOfTheProgram
