pub mod OneStage
