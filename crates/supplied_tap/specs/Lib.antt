pub mod SuppliedWorld
pub mod SuppliedHandle
pub mod Truth
pub mod Supply
pub mod SuppliedTap
