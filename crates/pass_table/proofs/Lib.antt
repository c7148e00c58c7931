mod BitLaws
mod MotionBits
mod MotionLineLaws
mod RoundLaws
mod TrailLaws
