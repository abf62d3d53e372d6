-- The queue of a load: the file positions that wait to be numbered. Assumes nothing.
use Rattle.std.specs.Prelude.{◌≡◌, ℕ, ◌<◌, ◌≤◌, Bool, List, length}
use Rattle.frontier.specs.declared.elements.ByLevel.{ByLevel}
use Rattle.frontier.specs.Heaps.{Among, Distinct, Queued}
use Rattle.frontier.specs.Orders.{lexical}
use Rattle.graph_reader.specs.FileCommits.{file_commit, file_level}

-- the lowest level first, and of equal levels the lowest position
abbrev pub by_level : ByLevel → ByLevel → Bool
by_level x y = lexical x.level x.position y.level y.position

module _ (file : List ℕ) where
  abbrev pub key : ℕ → ByLevel
  key p = record { level = file_level file p; position = p }

  -- how many parents the commit lists
  abbrev pub listed_by : ByLevel → ℕ
  listed_by x = length (file_commit file x.position).parents

  -- w different positions below n wait
  pub record Waits (n w : ℕ) (queue : List ByLevel) : Type 0 where
    pub within : w ≤ length queue
    pub queued : Queued by_level queue w
    pub distinct : Distinct queue w
    pub keyed : (y : ByLevel) → Among y queue w → (p : ℕ) × (p < n) × (y ≡ key p)

  -- all positions below n wait
  pub record AllWait (n : ℕ) (queue : List ByLevel) : Type 0 where
    pub waits : Waits n n queue
    pub each : (p : ℕ) → p < n → Among (key p) queue n
