pub mod JobTextLemmas
pub mod StepCostLemmas
pub mod PlanTextLemmas
