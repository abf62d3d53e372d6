-- The tables after one more commit. Assumes nothing.
use Rattle.std.proofs.Common.{◌≡◌, ℕ, ◌+◌, ◌-◌, ◌<◌, ◌≤◌, true, List, [], ◌∷◌, ◌++◌, map, length, get_or, take, drop, set, sym, refl, ap, ◌∙◌, subst, ap₂, ⊎_elim, arith}
use lib.Seq.{paste}
use Rattle.std.specs.List.{between}
use Rattle.std.proofs.lemmas.Bool.{cases_eq, cases_lt, cases_Bool}
use Rattle.std.proofs.lemmas.Slice.{between_is, put_mid-paste}
use Rattle.std.proofs.lemmas.List.Edits.{take-paste, get_or-between}
use Rattle.std.proofs.lemmas.List.{take-set, take-take, take-append-le, take_all, drop_at, length-take-le, take_more_set, map_push, ext_get_or, length-map, get_or-map, get_or-take, get_or-set_same, get_or-set_other}
use borrow.Rule.Slice.PartMut.{put_mid}
use Rattle.history.specs.declared.add.NewCommit.{NewCommit}
use Rattle.history.specs.declared.growth.Growth.{Growth}
use Rattle.history.specs.declared.row.CommitRow.{CommitRow}
use Rattle.history.specs.History.{Commit, no_commit, parent_total}
use Rattle.history.specs.Ids.{precedes}
use Rattle.history.specs.Computed.{Computed}
use Rattle.history.specs.Generations.{above, root_date, levels_of, corrected_of}
use Rattle.history.specs.Labels.{made, labels_of}
use Rattle.history.specs.Order.{shifted, Splits}
use Rattle.history.specs.Tables.{no_row, row_of, Inside, Earlier, Bounded, Within, Rising, Complete, commit, commits}
use Rattle.history.proofs.Adding.{total_push}
use Rattle.history.proofs.Chains.{labels_push}
use Rattle.history.proofs.Ids.{neither_precedes}
use Rattle.history.proofs.Lists.{shifted_below, shifted_at, shifted_above}

-- the list written behind the used part
abbrev pub behind : List ℕ → ℕ → List ℕ → List ℕ
behind parents used list = paste parents used list (length list)

-- as copying it there leaves the table
pub copied : (used : ℕ) (parents list written : List ℕ) → written ≡ list → used + length list ≤ length parents →
    put_mid used (used + length list - used) parents written ≡ behind parents used list
copied used parents list written is fits = put_mid-paste used (used + length list - used) parents written list (length list) is (omega arith) refl

-- the row of a new commit
abbrev pub new_row : {L : Type 0} → NewCommit → Growth L → ℕ → CommitRow
new_row new growth used =
    record { id = new.id; tree = new.tree; date = new.date; level = growth.level; corrected = growth.corrected; from = used; size = length new.parents.now }

module _ (parents : List ℕ) (used : ℕ) (list : List ℕ) (fits : used + length list ≤ length parents) where
  front : (j : ℕ) → j ≤ used → take j (behind parents used list) ≡ take j parents
  front j le =
      let n = length list in
      let p = behind parents used list in
      let long = length-take-le used parents (omega arith) in
      sym (take-take j (used + n) p (omega arith)) ∙ ap (take j) (take-paste parents used list n (omega arith) (omega arith))
      ∙ take-append-le j (take used parents) (take n list) (omega arith) ∙ take-take j used parents le

  pub front_stands : take used (behind parents used list) ≡ take used parents
  front_stands = front used (omega arith)

  between_old : (a e : ℕ) → e ≤ used → between a e (behind parents used list) ≡ between a e parents
  between_old a e le = between_is (behind parents used list) a e ∙ ap (drop a) (front e le) ∙ sym (between_is parents a e)

  between_new : between used (used + length list) (behind parents used list) ≡ list
  between_new =
      let n = length list in
      between_is (behind parents used list) used (used + n) ∙ ap (drop used) (take-paste parents used list n (omega arith) (omega arith))
      ∙ drop_at (take used parents) (take n list) used (length-take-le used parents (omega arith)) ∙ take_all n list (omega arith)

  getD_old : (i : ℕ) → i < used → get_or (behind parents used list) i 0 ≡ get_or parents i 0
  getD_old i lt =
      sym (get_or-take used (behind parents used list) i 0 lt) ∙ ap (λ l. get_or l i 0) front_stands ∙ get_or-take used parents i 0 lt

  getD_new : (j : ℕ) → j < length list → get_or (behind parents used list) (used + j) 0 ≡ get_or list j 0
  getD_new j lt =
      sym (get_or-between (behind parents used list) used (used + length list) j 0 (omega arith)) ∙ ap (λ l. get_or l j 0) between_new

-- the commits that the tables hold stand when parents are written behind the used ones
pub commits_stand : (rows : List CommitRow) (count : ℕ) → count ≤ length rows → (parents : List ℕ) (used : ℕ) (list : List ℕ) → used + length list ≤ length parents →
    Inside rows count used → commits rows (behind parents used list) count ≡ commits rows parents count
commits_stand rows count rowed parents used list fits inside =
    let p = behind parents used list in
    let long = length-take-le count rows rowed in
    ext_get_or no_commit _ _ (length-map (take count rows) (commit p) ∙ sym (length-map (take count rows) (commit parents)))
    (λ k lt.
    let lt' : k < length (take count rows) = omega (arith, length-map (take count rows) (commit p)) in
    let r = get_or (take count rows) k no_row in
    let is = get_or-take count rows k no_row (omega arith) in
    get_or-map (commit p) (take count rows) k no_row no_commit lt'
    ∙ ap (λ l. record { id = r.id.bytes; tree = r.tree.bytes; date = r.date; parents = l })
    (between_old parents used list fits r.from (r.from + r.size) (subst (λ x. x.from + x.size ≤ used) (sym is) (inside k (omega arith))))
    ∙ sym (get_or-map (commit parents) (take count rows) k no_row no_commit lt'))

pub earlier_stands : (rows : List CommitRow) (count : ℕ) (parents : List ℕ) (used : ℕ) (list : List ℕ) → used + length list ≤ length parents →
    Inside rows count used → Earlier rows parents count → Earlier rows (behind parents used list) count
earlier_stands rows count parents used list fits inside earlier k j lt q =
    subst (λ x. x < k) (sym (getD_old parents used list fits ((row_of rows k).from + j) (omega (arith, inside k lt)))) (earlier k j lt q)

-- a row of the table once one more is written
module _ (rows : List CommitRow) (count : ℕ) (row : CommitRow) (room : count < length rows) where
  pub row_new : row_of (set rows count row) count ≡ row
  row_new = get_or-set_same rows count row no_row room

  pub row_old : (k : ℕ) → k < count → row_of (set rows count row) k ≡ row_of rows k
  row_old k lt = get_or-set_other rows count k row no_row (λ e. omega arith)

  -- what holds of the old rows still does
  pub rows_stand : (P : ℕ → CommitRow → Type 0) → ((k : ℕ) → k < count → P k (row_of rows k)) → (k : ℕ) → k < count → P k (row_of (set rows count row) k)
  rows_stand P old k lt = subst (P k) (sym (row_old k lt)) (old k lt)

  -- what holds of the old rows and of the new one holds of all
  pub rows_push : (P : ℕ → CommitRow → Type 0) → ((k : ℕ) → k < count → P k (row_of rows k)) → P count row →
      (k : ℕ) → k < count + 1 → P k (row_of (set rows count row) k)
  rows_push P old new k lt =
      ⊎_elim
      (λ e. subst (λ i. P i (row_of (set rows count row) i)) (sym e) (subst (P count) (sym row_new) new))
      (λ ne. rows_stand P old k (omega arith))
      (cases_eq k count)

  -- a column of the table, with the new row's entry
  pub column_push : {X : Type 0} (f : CommitRow → X) → map f (take (count + 1) (set rows count row)) ≡ map f (take count rows) ++ (f row ∷ [])
  column_push f = ap (map f) (take_more_set rows count row room) ∙ map_push f (take count rows) row

  module _ (parents : List ℕ) (used : ℕ) (list : List ℕ) (fits : used + length list ≤ length parents) (inside : Inside rows count used)
      (from_is : row.from ≡ used) (size_is : row.size ≡ length list) where
    pub commits_push : commits (set rows count row) (behind parents used list) (count + 1)
        ≡ commits rows parents count ++ (record { id = row.id.bytes; tree = row.tree.bytes; date = row.date; parents = list } ∷ [])
    commits_push =
        let p = behind parents used list in
        let new : between row.from (row.from + row.size) p ≡ list =
        ap₂ (λ a b. between a (a + b) p) from_is size_is ∙ between_new parents used list fits in
        column_push (commit p)
        ∙ ap₂ (λ a b. a ++ (record { id = row.id.bytes; tree = row.tree.bytes; date = row.date; parents = b } ∷ [])) (commits_stand rows count (omega arith) parents used list fits inside) new

    pub inside_push : Inside (set rows count row) (count + 1) (used + length list)
    inside_push = rows_push (λ _ r. r.from + r.size ≤ used + length list) (λ k lt. omega (arith, inside k lt)) (omega arith)

    pub earlier_push : Earlier rows parents count → ((j : ℕ) → j < length list → get_or list j 0 < count) → Earlier (set rows count row) (behind parents used list) (count + 1)
    earlier_push earlier held k j lt =
        rows_push (λ i r. (j : ℕ) → j < r.size → get_or (behind parents used list) (r.from + j) 0 < i)
        (λ i l j q. earlier_stands rows count parents used list fits inside earlier i j l q)
        (λ j q.
        let q' : j < length list = omega arith in
        subst (λ x. x < count) (sym (ap (λ a. get_or (behind parents used list) (a + j) 0) from_is ∙ getD_new parents used list fits j q')) (held j q'))
        k lt j

    pub bounded_push : Bounded rows count → row.level ≤ count + 1 → row.corrected ≤ 17179869183 + count → Bounded (set rows count row) (count + 1)
    bounded_push bounded a b = rows_push (λ k r. (r.level ≤ k + 1) × (r.corrected ≤ 17179869183 + k)) bounded (a, b)

-- one label more
pub labels_more : {L : Type 0} (start : ℕ → ℕ → L) (grown : L → L → L) (h : List Commit) (c : Commit) (ls after : List L) (x : L) →
    after ≡ ls ++ (x ∷ []) → ls ≡ labels_of start grown h → x ≡ made start grown ls c.date c.parents → after ≡ labels_of start grown (h ++ (c ∷ []))
labels_more start grown h c ls after x pushed e is =
    pushed ∙ ap₂ (λ a b. a ++ (b ∷ [])) e (is ∙ ap (λ l. made start grown l c.date c.parents) e) ∙ sym (labels_push start grown [] h c)

-- the commits that the tables hold stand when parents and then a row are written behind the used parts
pub history_stands : (rows : List CommitRow) (count : ℕ) (row : CommitRow) → count ≤ length rows → (parents : List ℕ) (used : ℕ) (list : List ℕ) → used + length list ≤ length parents →
    Inside rows count used → commits (set rows count row) (behind parents used list) count ≡ commits rows parents count
history_stands rows count row rowed parents used list fits inside =
    ap (map (commit (behind parents used list))) (take-set rows count row) ∙ commits_stand rows count rowed parents used list fits inside

-- and what they hold beside them
pub computed_stands : {L : Type 0} {start : ℕ → ℕ → L} {grown : L → L → L} {h h' : List Commit} {rows : List CommitRow} {ls : List L} {count used : ℕ} →
    Computed start grown h rows ls count used → (row : CommitRow) → h' ≡ h → Computed start grown h' (set rows count row) ls count used
computed_stands {start = start} {grown = grown} {rows = rows} {count = count} s row e = record {
  labels = s.labels ∙ ap (labels_of start grown) (sym e);
  levels = ap (map (λ r. r.level)) (take-set rows count row) ∙ s.levels ∙ ap levels_of (sym e);
  corrected = ap (map (λ r. r.corrected)) (take-set rows count row) ∙ s.corrected ∙ ap corrected_of (sym e);
  total = s.total ∙ ap parent_total (sym e);
}

-- what the tables hold beside the commits, with one commit more
module _ {L : Type 0} {start : ℕ → ℕ → L} {grown : L → L → L} {h : List Commit} {rows : List CommitRow} {ls : List L} {count used : ℕ} (s : Computed start grown h rows ls count used)
    (c : Commit) (row : CommitRow) (label : L) (room : count < length rows) (label_room : count < length ls) where
  pub computed_push : row.level ≡ made (λ _ _. 1) above (map (λ r. r.level) (take count rows)) c.date c.parents →
      row.corrected ≡ made (λ _ d. root_date d) above (map (λ r. r.corrected) (take count rows)) c.date c.parents →
      label ≡ made start grown (take count ls) c.date c.parents →
      Computed start grown (h ++ (c ∷ [])) (set rows count row) (set ls count label) (count + 1) (used + length c.parents)
  computed_push level corrected is = record {
    labels = labels_more start grown h c (take count ls) _ label (take_more_set ls count label label_room) s.labels is;
    levels = labels_more (λ _ _. 1) above h c (map (λ r. r.level) (take count rows)) _ row.level (column_push rows count row room (λ r. r.level)) s.levels level;
    corrected = labels_more (λ _ d. root_date d) above h c (map (λ r. r.corrected) (take count rows)) _ row.corrected (column_push rows count row room (λ r. r.corrected)) s.corrected corrected;
    total = omega (arith, s.total, total_push h c);
  }

-- the number written behind the used part of the order by id
pub within_behind : (order : List ℕ) (n : ℕ) → n < length order → Within order n → Within (set order n n) (n + 1)
within_behind order n room within i lt =
    ⊎_elim
    (λ e. subst (λ j. get_or (set order n n) j 0 < n + 1) (sym e) (omega (arith, get_or-set_same order n n 0 room)))
    (λ ne. omega (arith, get_or-set_other order n i n 0 (λ e. omega arith), within i (omega arith)))
    (cases_eq i n)

-- the order by id once the new commit's number stands at its place
module _ (rows : List CommitRow) (order next : List ℕ) (count place : ℕ) (row : CommitRow) (room : count < length rows) (among : place ≤ count)
    (within : Within order count) (moved : (k : ℕ) → k < count + 1 → get_or next k 0 ≡ shifted order place count k) where
  at_place : get_or next place 0 ≡ count
  at_place = moved place (omega arith) ∙ shifted_at order place count

  below_place : (k : ℕ) → k < place → get_or next k 0 ≡ get_or order k 0
  below_place k lt = moved k (omega arith) ∙ shifted_below order place count k lt

  above_place : (k : ℕ) → place ≤ k → k < count → get_or next (k + 1) 0 ≡ get_or order k 0
  above_place k le lt = moved (k + 1) (omega arith) ∙ shifted_above order place count k le

  -- each entry is an old one, at its place or one further, or the new one
  data Entry : ℕ → Type 0 where
    low : {k : ℕ} → k < place → get_or next k 0 ≡ get_or order k 0 → Entry k
    new : {k : ℕ} → k ≡ place → get_or next k 0 ≡ count → Entry k
    high : {k : ℕ} (j : ℕ) → k ≡ j + 1 → place ≤ j → j < count → get_or next k 0 ≡ get_or order j 0 → Entry k

  entry : (k : ℕ) → k < count + 1 → Entry k
  entry k lt =
      ⊎_elim
      (λ l. low l (below_place k l))
      (λ ge.
      ⊎_elim
      (λ e. new e (subst (λ i. get_or next i 0 ≡ count) (sym e) at_place))
      (λ ne.
      let is : k ≡ (k - 1) + 1 = omega arith in
      high (k - 1) is (omega arith) (omega arith) (ap (λ i. get_or next i 0) is ∙ above_place (k - 1) (omega arith) (omega arith)))
      (cases_eq k place))
      (cases_lt k place)

  pub within_push : Within next (count + 1)
  within_push k lt = by (entry k lt)
    where
      by : Entry k → get_or next k 0 < count + 1
      by (low l e) = omega (arith, within k (omega arith))
      by (new e is) = omega arith
      by (high j e le l is) = omega (arith, within j l)

  pub complete_push : Complete order count → Complete next (count + 1)
  complete_push complete a lt =
      ⊎_elim
      (λ e. (place, omega arith, at_place ∙ sym e))
      (λ ne.
      let q = complete a (omega arith) in
      ⊎_elim
      (λ l. (q.0, omega arith, below_place q.0 l ∙ q.2))
      (λ ge. (q.0 + 1, omega arith, above_place q.0 ge q.1 ∙ q.2))
      (cases_lt q.0 place))
      (cases_eq a count)

  abbrev id_of : ℕ → List ℕ
  id_of a = (row_of (set rows count row) a).id.bytes

  old_id : (a : ℕ) → a < count → id_of a ≡ (row_of rows a).id.bytes
  old_id a lt = ap (λ r. r.id.bytes) (row_old rows count row room a lt)

  new_id : id_of count ≡ row.id.bytes
  new_id = ap (λ r. r.id.bytes) (row_new rows count row room)

  module _ (rising : Rising rows order count) (splits : Splits rows order count row.id.bytes place place)
      (fresh : (i : ℕ) → i < count → (row_of rows (get_or order i 0)).id.bytes ≡ row.id.bytes → ⊥) where
    abbrev Before : ℕ → ℕ → Type 0
    Before i j = precedes (id_of (get_or next i 0)) (id_of (get_or next j 0)) ≡ true

    at_old : (k j : ℕ) → j < count → get_or next k 0 ≡ get_or order j 0 → id_of (get_or next k 0) ≡ (row_of rows (get_or order j 0)).id.bytes
    at_old k j lt e = ap id_of e ∙ old_id (get_or order j 0) (within j lt)

    at_new : (k : ℕ) → get_or next k 0 ≡ count → id_of (get_or next k 0) ≡ row.id.bytes
    at_new k e = ap id_of e ∙ new_id

    old_old : (i j a b : ℕ) → a < b → b < count → get_or next i 0 ≡ get_or order a 0 → get_or next j 0 ≡ get_or order b 0 → Before i j
    old_old i j a b lt l x y = ap₂ precedes (at_old i a (omega arith) x) (at_old j b l y) ∙ rising a b lt l

    -- an entry from the place on comes after the new id
    after_new : (b : ℕ) → place ≤ b → b < count → precedes row.id.bytes (row_of rows (get_or order b 0)).id.bytes ≡ true
    after_new b le lt =
        ⊎_elim (λ t. t)
        (λ f. absurd (fresh b lt (neither_precedes _ _ (splits.after b le lt) f)))
        (cases_Bool (precedes row.id.bytes (row_of rows (get_or order b 0)).id.bytes))

    rising_by : (i j : ℕ) → i < j → j < count + 1 → Entry i → Entry j → Before i j
    rising_by i j lt l (low p x) (low q y) = old_old i j i j lt (omega arith) x y
    rising_by i j lt l (low p x) (new q y) = ap₂ precedes (at_old i i (omega arith) x) (at_new j y) ∙ splits.before i p
    rising_by i j lt l (low p x) (high b q le h y) = old_old i j i b (omega arith) h x y
    rising_by i j lt l (new p x) (low q y) = absurd (omega arith)
    rising_by i j lt l (new p x) (new q y) = absurd (omega arith)
    rising_by i j lt l (new p x) (high b q le h y) = ap₂ precedes (at_new i x) (at_old j b h y) ∙ after_new b le h
    rising_by i j lt l (high a p le h x) (low q y) = absurd (omega arith)
    rising_by i j lt l (high a p le h x) (new q y) = absurd (omega arith)
    rising_by i j lt l (high a p le h x) (high b q le' h' y) = old_old i j a b (omega arith) h' x y

    pub rising_push : Rising (set rows count row) next (count + 1)
    rising_push i j lt l = rising_by i j lt l (entry i (omega arith)) (entry j l)
