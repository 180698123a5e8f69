pub mod KeyArms
pub mod KeyTests
pub mod ReservationArms
