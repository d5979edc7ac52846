pub mod TransformPlanLemmas
