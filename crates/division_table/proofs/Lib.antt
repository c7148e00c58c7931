mod ColumnBits
mod TrailLaws
