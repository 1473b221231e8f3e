pub mod RouteList
