pub mod Inputs
pub mod ScenarioInput
pub mod SceneInputs
pub mod BoundScenes
