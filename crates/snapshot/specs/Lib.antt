pub mod RowMaps
pub mod Snapshots
