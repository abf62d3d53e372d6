-- All positions are numbered: the history is the one that the file describes. Assumes nothing.
use Rattle.std.proofs.Common.{◌≡◌, ℕ, ◌<◌, ◌≤◌, true, List, length, get_or, take, None, sym, ap, ◌∙◌, subst, subst₂, ⊎_elim, arith}
use Rattle.std.proofs.lemmas.List.{get_or-take, length-take-le}
use Rattle.frontier.specs.declared.elements.ByLevel.{ByLevel}
use Rattle.frontier.specs.Orders.{lexical}
use Rattle.graph_file.specs.Encoding.{FileOrder}
use Rattle.graph_reader.specs.Bytes.{told_count}
use Rattle.graph_reader.specs.FileCommits.{file_commit, file_level, renumbered, Sound}
use Rattle.graph_reader.specs.Verdict.{file_fault}
use Rattle.graph_reader.proofs.WrittenAs.{written_as}
use Rattle.history.specs.Generations.{levels_of}
use Rattle.history.specs.History.{Commit, commit_of, Wellformed}
use Rattle.history.specs.Ids.{precedes}
use Rattle.loading.specs.Described.{Described}
use Rattle.loading.specs.Waiting.{by_level, key}
use Rattle.loading.proofs.Lists.{same_numbers}
use Rattle.loading.proofs.Numbering.{Numbered}
use Rattle.loading.proofs.Recording.{Recorded}

module _ (file : List ℕ) (sound : Sound file) (done places : List ℕ) (queue : List ByLevel) (s : Numbered file done places 0 queue) where
  abbrev n : ℕ
  n = told_count file

  all_done : length done ≡ n
  all_done = omega (arith, s.all)

  pub has_number : (p : ℕ) → p < n → (a : ℕ) × (a < length done) × (get_or done a 0 ≡ p) × (get_or places p 0 ≡ a)
  has_number p lt =
      ⊎_elim
      (λ u. absurd (omega (arith, u.1)))
      (λ d. (d.0, d.1, d.2, ap (λ q. get_or places q 0) (sym d.2) ∙ (s.placed d.0 d.1).1))
      (s.each p lt)

  pub number_below : (p : ℕ) → p < n → get_or places p 0 < n
  unfolding all_done
  number_below p lt = let d = has_number p lt in omega (arith, all_done, d.1, d.3)

  module _ (long : n ≤ length places) where
    abbrev order : List ℕ
    order = take n places

    pub order_long : length order ≡ n
    order_long = length-take-le n places long

    pub order_at : (p : ℕ) → p < n → get_or order p 0 ≡ get_or places p 0
    order_at p lt = get_or-take n places p 0 lt

    module _ (h : List Commit) (r : Recorded file h done places) where
      commit_placed : (p : ℕ) → p < n → commit_of h (get_or order p 0) ≡ renumbered places (file_commit file p)
      commit_placed p lt =
          let d = has_number p lt in
          ap (commit_of h) (order_at p lt ∙ d.3) ∙ r.commit d.0 d.1 ∙ ap (λ q. renumbered places (file_commit file q)) d.2

      commit_ordered : (p : ℕ) → p < n → commit_of h (get_or order p 0) ≡ renumbered order (file_commit file p)
      unfolding commit_placed
      commit_ordered p lt =
          let c = file_commit file p in
          commit_placed p lt ∙ same_numbers places order c (λ j l. sym (order_at (get_or c.parents j 0) (sound.held p j lt l)))

      level_ordered : (p : ℕ) → p < n → get_or (levels_of h) (get_or order p 0) 0 ≡ file_level file p
      level_ordered p lt =
          let d = has_number p lt in
          ap (λ a. get_or (levels_of h) a 0) (order_at p lt ∙ d.3) ∙ r.level d.0 d.1 ∙ ap (file_level file) d.2

      history_long : length h ≡ n
      unfolding all_done
      history_long = r.long ∙ all_done

      id_ordered : (p : ℕ) → p < n → (commit_of h (get_or order p 0)).id ≡ (file_commit file p).id
      unfolding commit_placed
      id_ordered p lt = ap (λ c. c.id) (commit_placed p lt)

      file_ordered : FileOrder h order
      unfolding id_ordered all_done history_long
      file_ordered =
          let short = order_long in
          let full = history_long in
          record {
            long = short ∙ sym full;
            held = λ i lt. let l : i < n = omega arith in subst (λ x. x < length h) (sym (order_at i l)) (omega (arith, number_below i l));
            rising = λ i j lt l.
                subst₂ (λ a b. precedes a b ≡ true) (sym (id_ordered i (omega arith))) (sym (id_ordered j (omega arith))) (sound.rising i j lt (omega arith));
            complete = λ a lt.
                let l : a < length done = omega (arith, r.long) in
                let q = s.placed a l in
                (get_or done a 0, omega (arith, q.0), order_at (get_or done a 0) q.0 ∙ q.1);
          }

      numbered_rising : (i j : ℕ) → i < length order → j < length order → get_or order i 0 < get_or order j 0 →
          lexical (get_or (levels_of h) (get_or order i 0) 0) i (get_or (levels_of h) (get_or order j 0) 0) j ≡ true
      unfolding level_ordered
      numbered_rising i j li lj lt =
          let short = order_long in
          let ni : i < n = omega arith in
          let nj : j < n = omega arith in
          let a = has_number i ni in
          let b = has_number j nj in
          let less : a.0 < b.0 = omega (arith, order_at i ni, order_at j nj, a.3, b.3) in
          let sorted : by_level (key file i) (key file j) ≡ true =
          subst₂ (λ p q. by_level (key file p) (key file q) ≡ true) a.2 b.2 (s.sorted a.0 b.0 less b.1) in
          subst₂ (λ x y. lexical x i y j ≡ true) (sym (level_ordered i ni)) (sym (level_ordered j nj)) sorted

      pub described : ((i : ℕ) → get_or file i 0 < 256) → file_fault file ≡ None → Wellformed h → Described file h order
      unfolding file_ordered commit_ordered level_ordered numbered_rising
      described small fine w =
          record {
            wellformed = w;
            ordered = file_ordered;
            written = written_as file small fine h order file_ordered order_long commit_ordered level_ordered;
            numbered = numbered_rising;
          }
