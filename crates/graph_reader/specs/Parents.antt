-- The parents that a file names, as file positions, or the byte place of the first word that the layout excludes, given those before it. Assumes nothing.
use Rattle.std.specs.Prelude.{ℕ, suc, ◌+◌, ◌-◌, ◌*◌, cond, ◌&&◌, List, [], ◌∷◌, drop, Ok, Err, Result, ◌==◌, nat_le, nat_lt}
use Rattle.graph_file.specs.Layout.{Row, has_edges}
use Rattle.graph_file.specs.Encoding.{extra}
use Rattle.graph_file.specs.ParentWords.{no_parent, mark}

-- x in front of a list, where there is one
abbrev pub led_by : {X : Type 0} → X → Result (List X) ℕ → Result (List X) ℕ
led_by x (Ok xs) = Ok (x ∷ xs)
led_by x (Err place) = Err place

-- what comes next, unless something was wrong
abbrev pub went_on : {X Y : Type 0} → Result X ℕ → (X → Result Y ℕ) → Result Y ℕ
went_on (Ok x) f = f x
went_on (Err place) f = Err place

-- in a file of `count` commits, whose CDAT begins at the byte place `cdat`, and EDGE at `edge`
module _ (count cdat edge : ℕ) where
  -- the list at the front of these words of EDGE, the first of which has the index `at`; k words of the list came before. It ends with a marked
  -- word, which is not its first, and has at most 63 words. The end of EDGE, which is that of the file, is no end of a list
  abbrev pub listed_from : ℕ → ℕ → List ℕ → Result (List ℕ) ℕ
  listed_from at k [] = Err (edge + 4 * at)
  listed_from at k (w ∷ words) =
      cond (nat_le 63 k) (Err (edge + 4 * at))
      (cond (nat_lt w count) (led_by w (listed_from (suc at) (suc k) words))
      (cond (nat_lt 0 k && (nat_le mark w && nat_lt (w - mark) count)) (Ok ((w - mark) ∷ [])) (Err (edge + 4 * at))))

  -- the parents behind the first: none, one, or a list that begins with the first unused word of EDGE, which has the index `next`
  abbrev pub others_of : ℕ → ℕ → ℕ → List ℕ → Result (List ℕ) ℕ
  others_of p next second unused =
      cond (second == no_parent) (Ok [])
      (cond (nat_lt second count) (Ok (second ∷ []))
      (cond (second == mark + next && has_edges unused) (listed_from next 0 unused) (Err (cdat + 36 * p + 24))))

  -- the parents of the commit at file position p, by its two words; without a first parent there is no second
  abbrev pub parents_by : ℕ → ℕ → ℕ → ℕ → List ℕ → Result (List ℕ) ℕ
  parents_by p next first second unused =
      cond (first == no_parent) (cond (second == no_parent) (Ok []) (Err (cdat + 36 * p + 24)))
      (cond (nat_lt first count) (led_by first (others_of p next second unused)) (Err (cdat + 36 * p + 20)))

  -- no word of EDGE may be left over
  abbrev pub used_up : ℕ → List ℕ → Result (List (List ℕ)) ℕ
  used_up next [] = Ok []
  used_up next (w ∷ words) = Err (edge + 4 * next)

  -- the parents of the commits from file position p on
  abbrev pub parents_from : ℕ → ℕ → List Row → List ℕ → Result (List (List ℕ)) ℕ
  parents_from p next [] unused = used_up next unused
  parents_from p next (r ∷ rows) unused =
      went_on (parents_by p next r.first r.second unused) (λ ps. led_by ps (parents_from (suc p) (next + extra ps) rows (drop (extra ps) unused)))
