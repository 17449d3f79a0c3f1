pub mod Readings
pub mod Program
pub mod Printed
pub mod ReportViews
