pub mod RemainderRows
