-- A load's answer by the model. Assumes nothing.
use Rattle.std.proofs.Common.{◌≡◌, ℕ, ◌≤◌, List, [], length, None, sym, ap, ◌∙◌, ap₂, arith}
use Rattle.graph_file.specs.Encoding.{FileOrder, layout_of}
use Rattle.graph_file.specs.Layout.{file_bytes}
use Rattle.graph_reader.specs.Bytes.{told_count}
use Rattle.graph_reader.specs.Verdict.{file_fault, parents_in, total_of}
use Rattle.graph_reader.proofs.Accepted.{accepted, accepted_count, accepted_total}
use Rattle.labels.specs.declared.kind.LabelKind.{Ghosts}
use Rattle.history.specs.declared.graph.CommitGraph.{CommitGraph}
use Rattle.history.specs.Graph.{capacity, parent_capacity, Represents}
use Rattle.history.specs.History.{Commit, Wellformed, parent_total}
use Rattle.history.specs.Model.{Model}
use Rattle.history.proofs.Commits.{represented_length}
use Rattle.loading.specs.Loads.{load_refusal}
use Rattle.loading.proofs.Refusing.{not_refused}

module _ {K L : Type 0} {kind : Ghosts K L} (start : ℕ → ℕ → L) (grown : L → L → L) (m : Model) (g : CommitGraph K L kind) (s : Represents start grown m g) (file : List ℕ) (queue places : ℕ) where
  -- the tables are tested as the model says
  pub model_refusal : load_refusal g.count (capacity g) (parent_capacity g) file queue places ≡ load_refusal (length m.commits) m.capacity m.parent_capacity file queue places
  model_refusal =
      ap (λ n. load_refusal n (capacity g) (parent_capacity g) file queue places) (sym (represented_length start grown m g s))
      ∙ ap₂ (λ a b. load_refusal (length m.commits) a b file queue places) s.filled.room s.filled.parent_room

  -- the file of a history for which there is room is not refused
  module _ (h : List Commit) (order : List ℕ) (e : m.commits ≡ []) (w : Wellformed h) (o : FileOrder h order) (is : file ≡ file_bytes (layout_of h order))
      (commits : length h ≤ m.capacity) (parents : parent_total h ≤ m.parent_capacity) (queues : length h ≤ queue) (numbers : length h ≤ places) where
    few : length h ≤ 65536
    few = omega (arith, s.filled.room)

    listed : parent_total h ≤ 262144
    listed = omega (arith, s.filled.parent_room)

    pub file_count : told_count file ≡ length h
    unfolding few listed
    file_count = ap told_count is ∙ accepted_count h order w o few listed

    pub file_accepted : load_refusal g.count (capacity g) (parent_capacity g) file queue places ≡ None
    unfolding few listed
    file_accepted =
        let total = ap (λ f. total_of (parents_in f)) is ∙ accepted_total h order w o few listed in
        model_refusal
        ∙ not_refused (length m.commits) m.capacity m.parent_capacity file queue places
        (record {
          empty = ap length e;
          fine = ap file_fault is ∙ accepted h order w o few listed;
          room = record {
            commit_room = omega (arith, file_count);
            parent_room = omega (arith, total);
            queue_room = omega (arith, file_count);
            place_room = omega (arith, file_count);
          };
        })
