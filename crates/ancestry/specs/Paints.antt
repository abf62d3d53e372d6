-- Paints: what each tells, how they join, and their bytes. Assumes nothing.
use Rattle.std.specs.Prelude.{ℕ, Bool, true, false, cond, ◌==◌}
use Rattle.ancestry.specs.declared.paint.Paint.{Paint}
use Rattle.ancestry.specs.declared.paint.Paint.TheVariants.{Clear, Left, Right, Both, Below}

abbrev pub byte_of : Paint → ℕ
byte_of Clear = 0
byte_of Left = 1
byte_of Right = 2
byte_of Both = 3
byte_of Below = 4

abbrev pub paint_of : ℕ → Paint
paint_of byte = cond (byte == 0) Clear (cond (byte == 1) Left (cond (byte == 2) Right (cond (byte == 3) Both Below)))

-- reached from the first commit
abbrev pub left : Paint → Bool
left Clear = false
left Left = true
left Right = false
left Both = true
left Below = true

-- reached from the second commit
abbrev pub right : Paint → Bool
right Clear = false
right Left = false
right Right = true
right Both = true
right Below = true

-- reached from a commit that both reach
abbrev pub below : Paint → Bool
below Clear = false
below Left = false
below Right = false
below Both = false
below Below = true

-- one paint on another
abbrev pub joined : Paint → Paint → Paint
joined Clear arriving = arriving
joined Left Clear = Left
joined Left Left = Left
joined Left Right = Both
joined Left Both = Both
joined Left Below = Below
joined Right Clear = Right
joined Right Left = Both
joined Right Right = Right
joined Right Both = Both
joined Right Below = Below
joined Both Clear = Both
joined Both Left = Both
joined Both Right = Both
joined Both Both = Both
joined Both Below = Below
joined Below arriving = Below

-- what a commit's paint lays on its parents
abbrev pub passed : Paint → Paint
passed Clear = Clear
passed Left = Left
passed Right = Right
passed Both = Below
passed Below = Below
