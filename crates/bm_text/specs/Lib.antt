pub mod Line
pub mod ReportText
pub mod StatusText
pub mod DrillText
pub mod JobText
pub mod StepCost
pub mod PlanText
