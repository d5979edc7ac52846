pub mod LoadPlaces
pub mod LoadMove
