-- What loading a file answers. Assumes nothing.
use Rattle.std.specs.Prelude.{◌≡◌, ℕ, ◌≤◌, cond, ◌||◌, List, length, take, drop, Some, None, Option, Result, nat_lt}
use Rattle.std.specs.Option.{option_map}
use Rattle.frontier.specs.declared.elements.ByLevel.{ByLevel}
use Rattle.graph_file.specs.Encoding.{FileOrder}
use Rattle.graph_reader.specs.Bytes.{told_count}
use Rattle.graph_reader.specs.Faults.{either}
use Rattle.graph_reader.specs.Verdict.{file_fault, parents_in, total_of}
use Rattle.labels.specs.declared.kind.LabelKind.{Ghosts}
use Rattle.history.specs.declared.graph.CommitGraph.{CommitGraph}
use Rattle.history.specs.declared.refusal.Refusal.{Refusal}
use Rattle.history.specs.declared.refusal.Refusal.TheVariants.{CapacityPassed, ParentCapacityPassed, BufferTooShort}
use Rattle.history.specs.Graph.{Represents}
use Rattle.history.specs.History.{Commit, parent_total}
use Rattle.history.specs.Model.{Model, number_or}
use Rattle.loading.specs.declared.refusal.LoadRefusal.{LoadRefusal}
use Rattle.loading.specs.declared.refusal.LoadRefusal.TheVariants.{HistoryNotEmpty, FileFault, Refused}
use Rattle.loading.specs.Described.{Described}
use Rattle.loading.specs.Filling.{Grown, holding}

-- want of room for so many commits that list so many parents, tested in this order
abbrev pub room_refusal : ℕ → ℕ → ℕ → ℕ → ℕ → ℕ → Option Refusal
room_refusal capacity parent_capacity commits parents queue places =
    cond (nat_lt capacity commits) (Some CapacityPassed)
    (cond (nat_lt parent_capacity parents) (Some ParentCapacityPassed)
    (cond (nat_lt queue commits || nat_lt places commits) (Some BufferTooShort) None))

-- why a file cannot be loaded into a history of `held` commits, with a queue and a list of places of these lengths, tested in this order
unfoldable pub load_refusal : ℕ → ℕ → ℕ → List ℕ → ℕ → ℕ → Option LoadRefusal
load_refusal held capacity parent_capacity file queue places =
    cond (nat_lt 0 held) (Some HistoryNotEmpty)
    (either (option_map FileFault (file_fault file))
    (option_map Refused (room_refusal capacity parent_capacity (told_count file) (total_of (parents_in file)) queue places)))

-- the number of commits, or the refusal
abbrev pub load_reply : Model → List ℕ → ℕ → ℕ → Result ℕ LoadRefusal
load_reply m file queue places =
    number_or (told_count file) (load_refusal (length m.commits) m.capacity m.parent_capacity file queue places)

-- h is the history that the file describes, and the only one that a history's tables can hold; `order` has the commits' numbers by file position, and is
-- the only file order of h, so that h has this file alone
pub record Told (file : List ℕ) (h : List Commit) (order : List ℕ) : Type 0 where
  pub described : Described file h order
  pub few : length h ≤ 65536
  pub listed : parent_total h ≤ 262144
  pub filed_once : (order' : List ℕ) → FileOrder h order' → order' ≡ order
  pub sole : (h' : List Commit) (order' : List ℕ) → length h' ≤ 65536 → parent_total h' ≤ 262144 → Described file h' order' → (h' ≡ h) × (order' ≡ order)

-- the history is now the one that the file describes; entry p of `places` is the number of the commit at file position p. All entries of the tables
-- behind the commits, and of queue and places from the number of commits on, stand
pub record Loaded {K L : Type 0} {kind : Ghosts K L} (start : ℕ → ℕ → L) (grown : L → L → L) (file : List ℕ) (g g' : CommitGraph K L kind) (queue queue' : List ByLevel) (places places' : List ℕ) : Type 0 where
  pub count : g'.count ≡ told_count file
  pub tables : Grown g g'
  pub later_queue : drop (told_count file) queue' ≡ drop (told_count file) queue
  pub later_places : drop (told_count file) places' ≡ drop (told_count file) places
  pub history : (m : Model) → Represents start grown m g →
      (h : List Commit) × Represents start grown (holding m h) g' × Told file h (take (told_count file) places')
