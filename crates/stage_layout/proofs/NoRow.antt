-- A row that stands for those beyond a list.
use Rattle.stage_layout.specs.declared.layout.LayoutRow.{LayoutRow}

abbrev pub no_row : LayoutRow
no_row = record { tuple = record { 0 = 0 }; place = record { stage = 0; array = 0; cell = 0 } }
