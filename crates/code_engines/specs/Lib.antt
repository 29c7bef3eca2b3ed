pub mod ScriptValue
pub mod StepsText
pub mod StepsReading
pub mod Steps
pub mod Asm
pub mod Dis
