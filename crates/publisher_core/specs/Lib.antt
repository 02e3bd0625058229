pub mod Audit
pub mod AuditParts
pub mod Found
pub mod Gathered
pub mod Records
pub mod Readings
pub mod Standing
pub mod Stepping
