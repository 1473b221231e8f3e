pub mod Examples
pub mod RouteList
