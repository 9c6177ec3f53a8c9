pub mod PutsData
