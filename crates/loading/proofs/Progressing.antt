-- A load from commit to commit. Assumes nothing.
use Rattle.std.proofs.Common.{◌≡◌, ℕ, ◌+◌, ◌-◌, ◌<◌, ◌≤◌, List, [], ◌∷◌, ◌++◌, length, get_or, take, drop, set, None, sum_by, sym, refl, ap, ◌∙◌, subst, arith}
use Rattle.std.proofs.lemmas.List.Sums.{sum_by-cons}
use Rattle.std.proofs.lemmas.List.{length-drop, length-set, drop-set-lt, length_push}
use Rattle.frontier.specs.declared.elements.ByLevel.{ByLevel}
use Rattle.frontier.specs.Heaps.{TakenOut}
use Rattle.graph_reader.specs.Bytes.{told_count}
use Rattle.graph_reader.specs.FileCommits.{file_commit, renumbered, Sound}
use Rattle.graph_reader.specs.Verdict.{parents_in, total_of}
use Rattle.labels.specs.declared.kind.LabelKind.{Ghosts}
use Rattle.history.specs.declared.graph.CommitGraph.{CommitGraph}
use Rattle.history.specs.Graph.{capacity, parent_capacity, Filled}
use Rattle.history.specs.History.{Commit, find_id}
use Rattle.history.specs.Model.{Model, plus}
use Rattle.history.specs.Room.{Appended, Outside}
use Rattle.loading.specs.Filling.{Grown, Roomy, holding}
use Rattle.loading.specs.Waiting.{by_level, AllWait, listed_by}
use Rattle.loading.proofs.Lists.{drop_later}
use Rattle.loading.proofs.Numbering.{Numbered, numbered_none, numbered_more, at_within}
use Rattle.loading.proofs.Recording.{Recorded, recorded_none, recorded_more, parent_numbered, fresh}
use Rattle.loading.proofs.Takes.{taken_sum}

-- behind what was written, a table is as it was
outside_on : {X : Type 0} (a b c : List X) (n m from to : ℕ) → n ≤ to → to ≡ m → drop n b ≡ drop n a → Outside b c from to → drop m c ≡ drop m a
outside_on a b c n m from to le e p o = subst (λ k. drop k c ≡ drop k a) e (o.behind ∙ drop_later n to b a le p)

-- and as long, where both reach as far as what was written
outside_long : {X : Type 0} (a b : List X) (from to : ℕ) → Outside a b from to → to ≤ length a → to ≤ length b → length b ≡ length a
outside_long a b from to o l m = omega (arith, sym (length-drop to b) ∙ ap length o.behind ∙ length-drop to a)

module _ {K L : Type 0} {kind : Ghosts K L} where
  pub grown_none : (g : CommitGraph K L kind) → Grown g g
  grown_none g =
      record { rows = refl; labels = refl; order = refl; parents = refl; row_room = refl; label_room = refl; order_room = refl; parent_room = refl }

  pub grown_more : (g₀ g g' : CommitGraph K L kind) (size : ℕ) → Grown g₀ g → g.count < capacity g → g.used + size ≤ parent_capacity g → Appended g g' size → Grown g₀ g'
  unfolding outside_on outside_long
  grown_more g₀ g g' size s room parent_room a =
      record {
        rows = outside_on _ _ _ g.count g'.count g.count (g.count + 1) (omega arith) (sym a.count) s.rows a.rows;
        labels = outside_on _ _ _ g.count g'.count g.count (g.count + 1) (omega arith) (sym a.count) s.labels a.labels;
        order = outside_on _ _ _ g.count g'.count 0 (g.count + 1) (omega arith) (sym a.count) s.order a.order;
        parents = outside_on _ _ _ g.used g'.used g.used (g.used + size) (omega arith) (sym a.used) s.parents a.parents;
        row_room = outside_long _ _ g.count (g.count + 1) a.rows (omega arith) (omega (arith, a.count, g'.rowed)) ∙ s.row_room;
        label_room = outside_long _ _ g.count (g.count + 1) a.labels (omega arith) (omega (arith, a.count, g'.labelled)) ∙ s.label_room;
        order_room = outside_long _ _ 0 (g.count + 1) a.order (omega arith) (omega (arith, a.count, g'.listed)) ∙ s.order_room;
        parent_room = outside_long _ _ g.used (g.used + size) a.parents (omega arith) (omega (arith, a.used, g'.parented)) ∙ s.parent_room;
      }

  pub grown_capacity : (g₀ g : CommitGraph K L kind) → Grown g₀ g → capacity g ≡ capacity g₀
  grown_capacity g₀ g s = omega (arith, s.row_room, s.label_room, s.order_room)

  pub grown_parents : (g₀ g : CommitGraph K L kind) → Grown g₀ g → parent_capacity g ≡ parent_capacity g₀
  grown_parents g₀ g s = omega (arith, s.parent_room)

-- `number` commits have been admitted
pub record Progress {K L : Type 0} {kind : Ghosts K L} (start : ℕ → ℕ → L) (grown : L → L → L) (file : List ℕ) (g₀ g : CommitGraph K L kind) (queue₀ queue : List ByLevel) (places₀ places : List ℕ) (number : ℕ) :
    Type 0 where
  pub done : List ℕ
  pub numbered : Numbered file done places (told_count file - number) queue
  pub long : length done ≡ number
  pub held : g.count ≡ number
  pub weighed : g.used + sum_by (listed_by file) (take (told_count file - number) queue) ≡ total_of (parents_in file)
  pub tables : Grown g₀ g
  pub queue_rest : drop (told_count file) queue ≡ drop (told_count file) queue₀
  pub places_rest : drop (told_count file) places ≡ drop (told_count file) places₀
  pub places_long : length places ≡ length places₀
  pub filled : (m : Model) → Filled start grown m g₀ → m.commits ≡ [] → (h : List Commit) × Filled start grown (holding m h) g × Recorded file h done places

-- the commit at position p has its parents numbered, and there is room for it
pub record Fits {K L : Type 0} {kind : Ghosts K L} (file : List ℕ) (g : CommitGraph K L kind) (places : List ℕ) (p : ℕ) : Type 0 where
  pub within : p < told_count file
  pub numbered : (j : ℕ) → j < length (file_commit file p).parents → get_or places (get_or (file_commit file p).parents j 0) 0 < g.count
  pub places_room : told_count file ≤ length places
  pub room : g.count < capacity g
  pub parent_room : g.used + length (file_commit file p).parents ≤ parent_capacity g

module _ {K L : Type 0} {kind : Ghosts K L} (start : ℕ → ℕ → L) (grown : L → L → L) (file : List ℕ) (g₀ : CommitGraph K L kind) (queue₀ : List ByLevel) (places₀ : List ℕ) where
  abbrev n : ℕ
  n = told_count file

  pub progress_none : AllWait file n queue₀ → sum_by (listed_by file) (take n queue₀) ≡ total_of (parents_in file) → Roomy file g₀ places₀ →
      Progress start grown file g₀ g₀ queue₀ queue₀ places₀ places₀ 0
  progress_none w e r =
      let all : n - 0 ≡ n = omega arith in
      record {
        done = [];
        numbered = subst (λ k. Numbered file [] places₀ k queue₀) (sym all) (numbered_none file places₀ queue₀ w);
        long = refl;
        held = r.empty;
        weighed = omega (arith, r.unused, ap (λ k. sum_by (listed_by file) (take k queue₀)) all, e);
        tables = grown_none g₀;
        queue_rest = refl;
        places_rest = refl;
        places_long = refl;
        filled = λ m s e. ([], subst (λ h. Filled start grown (holding m h) g₀) e s, recorded_none file places₀);
      }

  -- one position is taken out, and the commit there admitted
  module _ (sound : Sound file) (room : Roomy file g₀ places₀) (g : CommitGraph K L kind) (old new : List ByLevel) (places : List ℕ) (number : ℕ) (x : ByLevel)
      (s : Progress start grown file g₀ g queue₀ old places₀ places number) (long : length new ≡ length old) (t : TakenOut by_level old new (n - number) x) where
    abbrev p : ℕ
    p = x.position

    within : p < n
    within = at_within file s.done places (n - number) old new x s.numbered long t

    weight : sum_by (listed_by file) (take (n - number) old) ≡ length (file_commit file p).parents + sum_by (listed_by file) (take (n - number - 1) new)
    weight = taken_sum file n (n - number) old new x s.numbered.waits long t (listed_by file) ∙ sum_by-cons (listed_by file) x (take (n - number - 1) new)

    pub next_fits : Fits file g places p
    unfolding within weight
    next_fits =
        record {
          within = within;
          numbered = λ j lt.
              omega (arith, s.held, s.long, parent_numbered file sound s.done places (n - number) old new x s.numbered long t j lt);
          places_room = omega (arith, room.place_room, s.places_long);
          room = omega (arith, t.some, s.held, room.commit_room, grown_capacity g₀ g s.tables);
          parent_room = omega (arith, weight, s.weighed, room.parent_room, grown_parents g₀ g s.tables);
        }

    module _ (g' : CommitGraph K L kind) (places' : List ℕ) (put : places' ≡ set places p g.count) (rest : drop (n - number) new ≡ drop (n - number) old) (a : Appended g g' (length (file_commit file p).parents))
        (filled : (m : Model) → Filled start grown m g → find_id m.commits (file_commit file p).id ≡ None → Filled start grown (plus m (renumbered places (file_commit file p))) g') where
      pub progress_more : Progress start grown file g₀ g' queue₀ new places₀ places' (number + 1)
      unfolding within weight
      progress_more =
          let fewer : n - number - 1 ≡ n - (number + 1) = omega arith in
          let held : g.count ≡ length s.done = s.held ∙ sym s.long in
          let is : places' ≡ set places p (length s.done) = put ∙ ap (set places p) held in
          record {
            done = s.done ++ (p ∷ []);
            numbered = subst (λ k. Numbered file (s.done ++ (p ∷ [])) places' k new) fewer
                (subst (λ l. Numbered file (s.done ++ (p ∷ [])) l (n - number - 1) new) (sym is)
                (numbered_more file s.done places (n - number) old new x s.numbered long t (omega (arith, within, s.places_long, room.place_room))));
            long = omega (arith, length_push s.done p, s.long);
            held = omega (arith, a.count, s.held);
            weighed = omega (arith, a.used, weight, s.weighed, ap (λ k. sum_by (listed_by file) (take k new)) fewer);
            tables = grown_more g₀ g g' _ s.tables next_fits.room next_fits.parent_room a;
            queue_rest = drop_later (n - number) n new old (omega arith) rest ∙ s.queue_rest;
            places_rest = ap (drop n) put ∙ drop-set-lt n places p g.count within ∙ s.places_rest;
            places_long = ap length put ∙ length-set places p g.count ∙ s.places_long;
            filled = λ m f e.
                let q = s.filled m f e in
                let h = q.0 in
                let next = renumbered places (file_commit file p) in (
                  h ++ (next ∷ []),
                  filled (holding m h) q.1 (fresh file sound s.done places (n - number) old new x s.numbered long t h q.2),
                  subst (Recorded file (h ++ (next ∷ [])) (s.done ++ (p ∷ []))) (sym is) (recorded_more file sound s.done places (n - number) old new x s.numbered long t h q.2),
                );
          }
