pub mod StoresTest
