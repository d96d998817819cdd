pub mod Vector3
pub mod Quaternion
pub mod Isometry
pub mod Transform
pub mod Order
pub mod Answers
pub mod Laws
