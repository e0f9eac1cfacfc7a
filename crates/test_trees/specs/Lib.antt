pub mod BundleLanes
