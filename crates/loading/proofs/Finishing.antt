-- All commits are admitted. Assumes nothing.
use Rattle.std.proofs.Common.{◌≡◌, ℕ, ◌-◌, ◌<◌, ◌≤◌, List, length, get_or, None, ◌∙◌, subst, arith}
use Rattle.frontier.specs.declared.elements.ByLevel.{ByLevel}
use Rattle.graph_reader.specs.Bytes.{told_count}
use Rattle.graph_reader.specs.Verdict.{file_fault}
use Rattle.graph_reader.proofs.Sounding.{sound}
use Rattle.labels.specs.declared.kind.LabelKind.{Ghosts}
use Rattle.history.specs.declared.graph.CommitGraph.{CommitGraph}
use Rattle.loading.specs.Filling.{Admitted}
use Rattle.loading.proofs.Ending.{number_below, described}
use Rattle.loading.proofs.Numbering.{Numbered}
use Rattle.loading.proofs.Progressing.{Progress}

module _ {K L : Type 0} {kind : Ghosts K L} (start : ℕ → ℕ → L) (grown : L → L → L) (file : List ℕ) (small : (i : ℕ) → get_or file i 0 < 256) (fine : file_fault file ≡ None) (g g' : CommitGraph K L kind)
    (queue queue' : List ByLevel) (places places' : List ℕ) (number : ℕ) (all : number ≡ told_count file) (room : told_count file ≤ length places)
    (s : Progress start grown file g g' queue queue' places places' number) where
  done_all : Numbered file s.done places' 0 queue'
  done_all = subst (λ w. Numbered file s.done places' w queue') (let z : told_count file - number ≡ 0 = omega arith in z) s.numbered

  pub admitted : Admitted start grown file g g' queue queue' places places'
  unfolding done_all
  admitted =
      let good = sound file small fine in
      let long : told_count file ≤ length places' = omega (arith, s.places_long) in
      record {
        count = s.held ∙ all;
        tables = s.tables;
        queue_rest = s.queue_rest;
        places_rest = s.places_rest;
        numbers = number_below file good s.done places' queue' done_all;
        filled = λ m f e.
            let q = s.filled m f e in
            (q.0, q.1, described file good s.done places' queue' done_all long q.0 q.2 small fine q.1.wellformed);
      }
