pub mod RaisedRows
pub mod NextDevices
pub mod MergedRows
pub mod CallChecks
