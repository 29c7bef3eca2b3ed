pub mod StoreBuffers
