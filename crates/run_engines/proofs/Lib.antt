pub mod SeatsComplete
