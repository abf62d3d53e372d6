-- A file describes one history only. Assumes nothing.
use Rattle.std.proofs.Common.{◌≡◌, ℕ, ◌+◌, ◌*◌, ◌/◌, ◌%◌, ◌<◌, ◌≤◌, Bool, true, List, [], map, length, get_or, take, sym, refl, ap, ◌∙◌, subst₂, ⊎_elim, arith}
use Rattle.std.proofs.lemmas.List.FromFn.{get_or-map-range_with_len}
use Rattle.std.proofs.lemmas.List.{get_or-map, ext_get_or}
use Rattle.frontier.specs.Orders.{lexical}
use Rattle.graph_file.specs.Encoding.{position, row_of_commit, layout_of}
use Rattle.graph_file.specs.Placing.{extras}
use Rattle.graph_file.proofs.DataRows.{blank_row, row_at}
use Rattle.graph_file.proofs.FileOrders.{Rises, Covers, same_rising}
use Rattle.graph_file.proofs.Filing.{ordered_position}
use Rattle.graph_reader.specs.Bytes as bytes
use Rattle.graph_reader.specs.Bytes.{id_at, told_count, id_chunk, data_chunk, layout_in}
use Rattle.graph_reader.specs.FileCommits.{file_commit, file_level, renumbered}
use Rattle.graph_reader.specs.Levels.{levels_in}
use Rattle.graph_reader.specs.Verdict.{listed_in, parents_in}
use Rattle.graph_reader.proofs.Accepted.{accepted_count, read_as}
use Rattle.graph_reader.proofs.LevelSteps.{level_at}
use Rattle.graph_reader.proofs.LevelsRead.{levels_back}
use Rattle.graph_reader.proofs.ParentsRead.{named_parents, position_holds}
use Rattle.graph_reader.proofs.PlainFiles.{plain}
use Rattle.graph_reader.proofs.ReadBack.{layout_back}
use Rattle.graph_reader.proofs.Renumbering.{mapped_back}
use Rattle.history.specs.Generations.{levels_of}
use Rattle.history.specs.History.{Commit, no_commit, commit_of, parents_of, parent_total}
use Rattle.loading.specs.Described.{Described}
use Rattle.loading.proofs.Keys.{lexical_cases}
use Rattle.loading.proofs.Lists.{same_commit}

-- keys of two positions do not go both ways
key_one_way : (level : ℕ → ℕ) (p q : ℕ) → lexical (level p) p (level q) q ≡ true → lexical (level q) q (level p) p ≡ true → ⊥
key_one_way level p q a b =
    ⊎_elim
    (λ l. ⊎_elim (λ m. omega arith) (λ m. omega (arith, m.0)) (lexical_cases (level q) q (level p) p b))
    (λ l. ⊎_elim (λ m. omega (arith, l.0)) (λ m. omega (arith, l.1, m.1)) (lexical_cases (level q) q (level p) p b))
    (lexical_cases (level p) p (level q) q a)

-- of a history that the file describes, each commit is what is read at its position
module _ (file : List ℕ) (h : List Commit) (order : List ℕ) (few : length h ≤ 65536) (all : parent_total h ≤ 262144) (d : Described file h order) where
  layout_read : layout_in file ≡ layout_of h order
  layout_read = ap layout_in d.written ∙ layout_back (layout_of h order) (plain h order d.wellformed d.ordered few all)

  pub count_read : told_count file ≡ length h
  count_read = ap told_count d.written ∙ accepted_count h order d.wellformed d.ordered few all

  parents_as : parents_in file ≡ map (named_parents h order) order
  unfolding layout_read
  parents_as = ap listed_in (read_as h order d.wellformed d.ordered few file count_read layout_read)

  -- a commit's parents are the numbers at their positions
  numbers_back : (n : ℕ) → n < length h → map (λ q. get_or order q 0) (named_parents h order n) ≡ parents_of h n
  numbers_back n lt =
      let ps = parents_of h n in
      mapped_back (λ q. get_or order q 0) (position order) ps
      (λ j l. let less = d.wellformed.falling n (get_or ps j 0) (j, l, refl) in (position_holds h order d.ordered (get_or ps j 0) (omega arith)).1)

  module _ (p : ℕ) (lt : p < length order) where
    within : p < told_count file
    within = omega (arith, count_read, d.ordered.long)

    id_read : (file_commit file p).id ≡ (commit_of h (get_or order p 0)).id
    unfolding layout_read within
    id_read =
        sym (get_or-map-range_with_len (id_at (id_chunk file)) 0 (told_count file) p p [] within (omega arith))
        ∙ ap (λ l. get_or l.ids p []) layout_read ∙ get_or-map (λ n. (commit_of h n).id) order p 0 [] lt

    row_read : bytes.row_at (data_chunk file) p ≡ row_of_commit h order (get_or order p 0) (0 + extras h (take p order))
    unfolding layout_read within
    row_read =
        sym (get_or-map-range_with_len (bytes.row_at (data_chunk file)) 0 (told_count file) p p blank_row within (omega arith))
        ∙ ap (λ l. get_or l.rows p blank_row) layout_read ∙ row_at h order order 0 p lt

    date_read : (file_commit file p).date ≡ (commit_of h (get_or order p 0)).date
    unfolding row_read
    date_read =
        let n = get_or order p 0 in
        let level = get_or (levels_of h) n 0 in
        let date = (commit_of h n).date in
        let joined : (level * 4 + date / 4294967296) % 4 * 4294967296 + date % 4294967296 ≡ date = omega (arith, d.wellformed.dated n) in
        ap (λ r. r.generation % 4 * 4294967296 + r.low) row_read ∙ joined

    pub level_read : get_or (levels_of h) (get_or order p 0) 0 ≡ file_level file p
    unfolding layout_read within
    level_read =
        sym (levels_back h d.wellformed order d.ordered p lt) ∙ ap (λ l. get_or (levels_in l.rows) p 0) (sym layout_read)
        ∙ level_at (data_chunk file) (told_count file) p within

    pub commit_read : commit_of h (get_or order p 0) ≡ renumbered order (file_commit file p)
    unfolding parents_as numbers_back id_read row_read date_read
    commit_read =
        let n = get_or order p 0 in
        let named : (file_commit file p).parents ≡ named_parents h order n = ap (λ l. get_or l p []) parents_as ∙ get_or-map (named_parents h order) order p 0 [] lt in
        sym (same_commit id_read (ap (λ r. r.tree) row_read) date_read
        (ap (map (λ q. get_or order q 0)) named ∙ numbers_back n (d.ordered.held p lt)))

-- the positions of the numbers rise by level and position, whatever history it is
module _ (file : List ℕ) where
  abbrev before : ℕ → ℕ → Bool
  before p q = lexical (file_level file p) p (file_level file q) q

  rises : (h : List Commit) (order : List ℕ) → length h ≤ 65536 → parent_total h ≤ 262144 → Described file h order → Rises before (length h) (position order)
  rises h order few all d a b l lt =
      let here = position_holds h order d.ordered a (omega arith) in
      let there = position_holds h order d.ordered b lt in
      let p = position order a in
      let q = position order b in
      subst₂ (λ x y. lexical x p y q ≡ true) (level_read file h order few all d p here.0) (level_read file h order few all d q there.0)
      (d.numbered p q here.0 there.0 (omega (arith, here.1, there.1)))

  covers : (n : ℕ) (h₁ h₂ : List Commit) (o₁ o₂ : List ℕ) → n ≡ length h₁ → n ≡ length h₂ → Described file h₁ o₁ → Described file h₂ o₂ →
      Covers n (position o₁) (position o₂)
  covers n h₁ h₂ o₁ o₂ long₁ long₂ d₁ d₂ a lt =
      let p = position o₁ a in
      let l : p < length o₂ = omega (arith, (position_holds h₁ o₁ d₁.ordered a (omega arith)).0, d₁.ordered.long, d₂.ordered.long) in
      (get_or o₂ p 0, omega (arith, d₂.ordered.held p l), ordered_position h₂ o₂ d₂.ordered p (get_or o₂ p 0) l refl)

module _ (file : List ℕ) (h₁ h₂ : List Commit) (o₁ o₂ : List ℕ) (few₁ : length h₁ ≤ 65536) (all₁ : parent_total h₁ ≤ 262144) (few₂ : length h₂ ≤ 65536)
    (all₂ : parent_total h₂ ≤ 262144) (d₁ : Described file h₁ o₁) (d₂ : Described file h₂ o₂) where
  long : length h₁ ≡ length h₂
  long = sym (count_read file h₁ o₁ few₁ all₁ d₁) ∙ count_read file h₂ o₂ few₂ all₂ d₂

  same_position : (a : ℕ) → a < length h₁ → position o₁ a ≡ position o₂ a
  unfolding key_one_way rises covers long
  same_position =
      same_rising (before file) (key_one_way (file_level file)) (length h₁) (position o₁) (position o₂)
      (rises file h₁ o₁ few₁ all₁ d₁) (λ a b l lt. rises file h₂ o₂ few₂ all₂ d₂ a b l (omega (arith, long)))
      (covers file (length h₁) h₁ h₂ o₁ o₂ refl long d₁ d₂) (covers file (length h₁) h₂ h₁ o₂ o₁ long refl d₂ d₁)

  same_order : o₁ ≡ o₂
  unfolding same_position long
  same_order =
      ext_get_or 0 o₁ o₂ (d₁.ordered.long ∙ long ∙ sym d₂.ordered.long)
      (λ p lt.
      let a = get_or o₁ p 0 in
      let held = d₁.ordered.held p lt in
      let there : position o₂ a ≡ p = sym (same_position a held) ∙ ordered_position h₁ o₁ d₁.ordered p a lt refl in
      sym (position_holds h₂ o₂ d₂.ordered a (omega (arith, long))).1 ∙ ap (λ q. get_or o₂ q 0) there)

  -- both have at each number what is read at its position
  same_commits : h₁ ≡ h₂
  unfolding same_order long
  same_commits =
      ext_get_or no_commit h₁ h₂ long
      (λ a lt.
      let q = d₁.ordered.complete a lt in
      let p = q.0 in
      let l : p < length o₂ = omega (arith, q.1, d₁.ordered.long, long, d₂.ordered.long) in
      ap (commit_of h₁) (sym q.2) ∙ commit_read file h₁ o₁ few₁ all₁ d₁ p q.1
      ∙ ap (λ o. renumbered o (file_commit file p)) same_order
      ∙ sym (commit_read file h₂ o₂ few₂ all₂ d₂ p l) ∙ ap (λ o. commit_of h₂ (get_or o p 0)) (sym same_order) ∙ ap (commit_of h₂) q.2)

  pub described_unique : (h₁ ≡ h₂) × (o₁ ≡ o₂)
  unfolding same_commits same_order
  described_unique = (same_commits, same_order)
