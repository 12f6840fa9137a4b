pub mod CoreReports
