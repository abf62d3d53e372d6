-- Reading the parents of all commits, one commit after the other. Assumes nothing.
use Rattle.std.proofs.Common.{◌≡◌, ℕ, suc, ◌+◌, ◌*◌, ◌<◌, ◌≤◌, cond, ltb, ⊎_elim, List, [], ◌∷◌, length, drop, Some, None, Ok, Err, Result, sym, refl, ap, ◌∙◌, ap₂, add-one, arith}
use Rattle.std.proofs.lemmas.List.FromFn.{length-map-range_with_len, get_or-map-range_with_len}
use Rattle.std.proofs.lemmas.List.{at_drop_more, at_drop_all, drop-drop}
use Rattle.std.proofs.lemmas.Bool.{cases_lt, cond-true, cond-false, lt-ltb, le-ltb}
use Rattle.std.specs.Option.{option_map}
use Rattle.history.specs.declared.load_fault.ChunkFault.{ChunkFault}
use Rattle.history.specs.declared.load_fault.ChunkFault.TheVariants.{WrongParent}
use Rattle.graph_file.specs.Layout.{Row}
use Rattle.graph_file.specs.Encoding.{extra}
use Rattle.graph_reader.specs.declared.parts.Parts.{Parts}
use Rattle.graph_reader.specs.Bytes.{row_at}
use Rattle.graph_reader.specs.Parents.{led_by, went_on, used_up, parents_from}
use Rattle.graph_reader.specs.PartParents.{as_fault, part_row, part_rows, part_words, parents_at}
use Rattle.graph_reader.specs.Verdict.{failed_at, listed_in}
use Rattle.graph_reader.proofs.Options.{never_none}
use Rattle.graph_reader.proofs.ParentSteps.{length_words}

pub failed_led : {X : Type 0} (x : X) (r : Result (List X) ℕ) → failed_at (led_by x r) ≡ failed_at r
failed_led x (Ok xs) = refl
failed_led x (Err place) = refl

pub read_whole : {X : Type 0} (r : Result (List X) ℕ) → failed_at r ≡ None → r ≡ Ok (listed_in r)
read_whole (Ok xs) e = refl
read_whole (Err place) e = never_none place e

-- what was read, or the place of what is wrong
pub read_as : (r : Result (List ℕ) ℕ) (ps : List ℕ) → ◌≡◌ {A = Result (List ℕ) ChunkFault} (Ok ps) (as_fault r) → r ≡ Ok ps
read_as (Ok qs) ps e = let z : ps ≡ qs = cc e in ap Ok (sym z)
read_as (Err place) ps e = let z : ◌≡◌ {A = ℕ} 0 1 = cc e in absurd (omega arith)

pub wrong_at : (r : Result (List ℕ) ℕ) (fault : ChunkFault) → ◌≡◌ {A = Result (List ℕ) ChunkFault} (Err fault) (as_fault r) → (place : ℕ) × (r ≡ Err place) × (fault ≡ WrongParent place)
wrong_at (Ok qs) fault e = let z : ◌≡◌ {A = ℕ} 0 1 = cc e in absurd (omega arith)
wrong_at (Err place) fault e = (place, refl, cc e)

module _ (f : Parts) where
  pub length_rows : length (part_rows f) ≡ f.count
  length_rows = length-map-range_with_len (row_at f.rows.bytes.now) 0 f.count

  abbrev from_rows : ℕ → ℕ → List Row → List ℕ → Result (List (List ℕ)) ℕ
  from_rows = parents_from f.count f.rows.place f.edges.place

  -- the parents of the commits from position p on, where `next` words of EDGE came before
  abbrev pub parents_onward : ℕ → ℕ → Result (List (List ℕ)) ℕ
  parents_onward p next = from_rows p next (drop p (part_rows f)) (drop next (part_words f))

  module _ (p next : ℕ) (lt : p < f.count) where
    at_row : parents_onward p next ≡ from_rows p next (part_row f p ∷ drop (p + 1) (part_rows f)) (drop next (part_words f))
    at_row =
        at_drop_more (λ rs. from_rows p next rs (drop next (part_words f))) (part_rows f) p (part_row f p) (omega (arith, length_rows))
        ∙ ap (λ r. from_rows p next (r ∷ drop (p + 1) (part_rows f)) (drop next (part_words f)))
        (get_or-map-range_with_len (row_at f.rows.bytes.now) 0 f.count p p (part_row f p) lt (omega arith))

    abbrev beyond : List ℕ → Result (List (List ℕ)) ℕ
    beyond ps = led_by ps (from_rows (suc p) (next + extra ps) (drop (p + 1) (part_rows f)) (drop (extra ps) (drop next (part_words f))))

    pub onward_err : (place : ℕ) → parents_at f p next ≡ Err place → parents_onward p next ≡ Err place
    onward_err place e = at_row ∙ ap (λ r. went_on r beyond) e

    pub onward_fault : (fault : ChunkFault) → ◌≡◌ {A = Result (List ℕ) ChunkFault} (Err fault) (as_fault (parents_at f p next)) →
        option_map WrongParent (failed_at (parents_onward p next)) ≡ Some fault
    onward_fault fault e =
        let w = wrong_at (parents_at f p next) fault e in
        ap (λ r. option_map WrongParent (failed_at r)) (onward_err w.0 w.1) ∙ ap Some (sym w.2)

    pub onward_ok : (ps : List ℕ) → parents_at f p next ≡ Ok ps → parents_onward p next ≡ led_by ps (parents_onward (p + 1) (next + extra ps))
    onward_ok ps e =
        at_row ∙ ap (λ r. went_on r beyond) e
        ∙ ap₂ (λ q ws. led_by ps (from_rows q (next + extra ps) (drop (p + 1) (part_rows f)) ws)) (sym (add-one p)) (drop-drop (extra ps) next (part_words f))

    -- a commit whose parents are right decides nothing
    pub onward_more : (ps : List ℕ) → ◌≡◌ {A = Result (List ℕ) ChunkFault} (Ok ps) (as_fault (parents_at f p next)) →
        failed_at (parents_onward (p + 1) (next + extra ps)) ≡ failed_at (parents_onward p next)
    onward_more ps e = sym (ap failed_at (onward_ok ps (read_as (parents_at f p next) ps e)) ∙ failed_led ps _)

  module _ (p next : ℕ) (ge : f.count ≤ p) where
    at_end : parents_onward p next ≡ used_up f.count f.rows.place f.edges.place next (drop next (part_words f))
    at_end = at_drop_all (λ rs. from_rows p next rs (drop next (part_words f))) (part_rows f) p (omega (arith, length_rows))

    onward_left : next < f.entries → parents_onward p next ≡ Err (f.edges.place + 4 * next)
    onward_left lt = at_end ∙ at_drop_more (used_up f.count f.rows.place f.edges.place next) (part_words f) next 0 (omega (arith, length_words f))

    onward_end : f.entries ≤ next → parents_onward p next ≡ Ok []
    onward_end le = at_end ∙ at_drop_all (used_up f.count f.rows.place f.edges.place next) (part_words f) next (omega (arith, length_words f))

    pub onward_rest : failed_at (parents_onward p next) ≡ cond (ltb next f.entries) (Some (f.edges.place + 4 * next)) None
    onward_rest =
        ⊎_elim
        (λ lt. ap failed_at (onward_left lt) ∙ sym (cond-true _ _ _ (lt-ltb next f.entries lt)))
        (λ le. ap failed_at (onward_end le) ∙ sym (cond-false _ _ _ (le-ltb next f.entries le)))
        (cases_lt next f.entries)
