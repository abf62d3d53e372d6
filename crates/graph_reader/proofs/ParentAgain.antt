-- The parents of one commit, read again, are those of the pass over all commits. Assumes nothing.
use Rattle.std.proofs.Common.{◌≡◌, ℕ, zero, suc, ◌+◌, ◌-◌, ◌<◌, eqb, ltb, ◌⊎◌, List, [], ◌∷◌, get_or, drop, None, Ok, Err, Result, sym, refl, ap, ◌∙◌, subst, inl, inr, ⊎_elim, arith}
use Rattle.std.proofs.lemmas.Bool.{cases_Bool, cases_eq, cond-true, cond-false, ne_eqb, and_left}
use Rattle.graph_file.specs.Encoding.{extra}
use Rattle.graph_file.specs.ParentWords.{no_parent, mark}
use Rattle.graph_reader.specs.declared.parts.Parts.{Parts}
use Rattle.std.specs.Result.{ResultUnwrapsOrElse}
use Rattle.graph_reader.specs.declared.parent_list.ParentList.{ParentList}
use Rattle.history.specs.declared.load_fault.ChunkFault.{ChunkFault}
use Rattle.graph_reader.specs.Holding.{listed}
use Rattle.graph_reader.specs.Parents.{led_by, others_of, parents_by}
use Rattle.graph_reader.specs.PartParents.{as_read, as_fault, part_row, part_rows, part_words, parents_at, parents_of_all}
use Rattle.graph_reader.specs.Verdict.{failed_at, listed_in}
use Rattle.graph_reader.proofs.ParentCodes.{Held, parents_named}
use Rattle.graph_reader.proofs.ParentPass.{read_whole, parents_onward, onward_ok, onward_err}

pub never_ok : {X : Type 0} {A : Type 0} (place : ℕ) (x : X) → ◌≡◌ {A = Result X ℕ} (Err place) (Ok x) → A
never_ok place x e = let z : ◌≡◌ {A = ℕ} 0 1 = cc e in absurd (omega arith)

-- what was read of a right commit, or else a default, is its parents
pub unwrapped : (P : ParentList → Type 0) (r : Result ParentList ChunkFault) (v : ParentList) (read : Result (List ℕ) ℕ) (ps : List ℕ) →
    ResultUnwrapsOrElse r P v → as_read r ≡ as_fault read → read ≡ Ok ps → listed v ≡ ps
unwrapped P (Ok l) v read ps u e is = ap listed u ∙ (let z : ◌≡◌ {A = Result (List ℕ) ChunkFault} (Ok (listed l)) (Ok ps) = e ∙ ap as_fault is in cc)
unwrapped P (Err fault) v read ps u e is = let z : ◌≡◌ {A = Result (List ℕ) ChunkFault} (Err fault) (Ok ps) = e ∙ ap as_fault is in let y : ◌≡◌ {A = ℕ} 0 1 = cc in absurd (omega arith)

result_cases : {X : Type 0} (r : Result X ℕ) → ((x : X) × (r ≡ Ok x)) ⊎ ((place : ℕ) × (r ≡ Err place))
result_cases (Ok x) = inl (x, refl)
result_cases (Err place) = inr (place, refl)

led_ok : {X : Type 0} (x : X) (r : Result (List X) ℕ) (xs : List X) → led_by x r ≡ Ok xs → (ys : List X) × (r ≡ Ok ys) × (xs ≡ x ∷ ys)
led_ok x (Ok ys) xs e = (ys, refl, cc e)
led_ok x (Err place) xs e = never_ok place xs e

-- what a word says that does not point into EDGE is the same wherever the unused words begin
module _ (count cdat edge p first second : ℕ) (n m : ℕ) (us vs : List ℕ) (inward : second ≡ mark + n → ⊥) where
  abbrev others : ℕ → List ℕ → Result (List ℕ) ℕ
  others next unused = others_of count cdat edge p next second unused

  others_again : (qs : List ℕ) → others n us ≡ Ok qs → others m vs ≡ Ok qs
  others_again qs e =
      ⊎_elim
      (λ t. cond-true _ _ _ t ∙ sym (cond-true _ _ _ t) ∙ e)
      (λ f. ⊎_elim
      (λ t. cond-false _ _ _ f ∙ cond-true _ _ _ t ∙ sym (cond-false _ _ _ f ∙ cond-true _ _ _ t) ∙ e)
      (λ g. never_ok _ qs (sym (cond-false _ _ _ f ∙ cond-false _ _ _ g ∙ cond-false _ _ _ (and_left _ _ (ne_eqb second (mark + n) inward))) ∙ e))
      (cases_Bool (ltb second count)))
      (cases_Bool (eqb second no_parent))

  led_again : (ps : List ℕ) → led_by first (others n us) ≡ Ok ps → led_by first (others m vs) ≡ Ok ps
  unfolding others_again
  led_again ps e = let l = led_ok first (others n us) ps e in ap (led_by first) (others_again l.0 l.1) ∙ ap Ok (sym l.2)

  parents_again : (ps : List ℕ) → parents_by count cdat edge p n first second us ≡ Ok ps → parents_by count cdat edge p m first second vs ≡ Ok ps
  parents_again ps e =
      ⊎_elim
      (λ t. cond-true _ _ _ t ∙ sym (cond-true _ _ _ t) ∙ e)
      (λ f. ⊎_elim
      (λ t. cond-false _ _ _ f ∙ cond-true _ _ _ t ∙ led_again ps (sym (cond-false _ _ _ f ∙ cond-true _ _ _ t) ∙ e))
      (λ g. cond-false _ _ _ f ∙ cond-false _ _ _ g ∙ sym (cond-false _ _ _ f ∙ cond-false _ _ _ g) ∙ e)
      (cases_Bool (ltb first count)))
      (cases_Bool (eqb first no_parent))

module _ (f : Parts) where
  -- the words of a commit begin where its second parent word says
  from_start : (p next : ℕ) (ps : List ℕ) → parents_at f p next ≡ Ok ps → parents_at f p ((part_row f p).second - mark) ≡ Ok ps
  from_start p next ps e =
      let r = part_row f p in
      ⊎_elim
      (λ is. subst (λ n. parents_at f p n ≡ Ok ps) (let z : next ≡ r.second - mark = omega arith in z) e)
      (λ ne. parents_again f.count f.rows.place f.edges.place p r.first r.second next (r.second - mark)
      (drop next (part_words f)) (drop (r.second - mark) (part_words f)) ne ps e)
      (cases_eq r.second (mark + next))

  -- a pass without fault, apart
  pub onward_apart : (p next : ℕ) (pss : List (List ℕ)) → p < f.count → parents_onward f p next ≡ Ok pss →
      (ps : List ℕ) × (qss : List (List ℕ)) × (parents_at f p next ≡ Ok ps) × (parents_onward f (p + 1) (next + extra ps) ≡ Ok qss) × (pss ≡ ps ∷ qss)
  onward_apart p next pss lt e =
      ⊎_elim
      (λ ok. let l = led_ok ok.0 (parents_onward f (p + 1) (next + extra ok.0)) pss (sym (onward_ok f p next lt ok.0 ok.1) ∙ e) in
      (ok.0, l.0, ok.1, l.1, l.2))
      (λ err. never_ok err.0 pss (sym (onward_err f p next lt err.0 err.1) ∙ e))
      (result_cases (parents_at f p next))

  at_onward : (i p next : ℕ) (pss : List (List ℕ)) → p + i < f.count → parents_onward f p next ≡ Ok pss → (n : ℕ) × (parents_at f (p + i) n ≡ Ok (get_or pss i []))
  at_onward zero p next pss lt e =
      let a = onward_apart p next pss (omega arith) e in
      (next, subst (λ q. parents_at f q next ≡ Ok (get_or pss 0 [])) (let z : p ≡ p + 0 = omega arith in z) (a.2 ∙ ap (λ l. Ok (get_or l 0 [])) (sym a.4)))
  at_onward (suc i) p next pss lt e =
      let a = onward_apart p next pss (omega arith) e in
      let r = at_onward i (p + 1) (next + extra a.0) a.1 (omega arith) a.3 in
      (r.0, subst (λ q. parents_at f q r.0 ≡ Ok (get_or pss (suc i) [])) (let z : p + 1 + i ≡ p + suc i = omega arith in z) (r.1 ∙ ap (λ l. Ok (get_or l (suc i) [])) (sym a.4)))

  pub read_again : (pss : List (List ℕ)) → parents_of_all f ≡ Ok pss → (p : ℕ) → p < f.count → parents_at f p ((part_row f p).second - mark) ≡ Ok (get_or pss p [])
  unfolding at_onward
  read_again pss e p lt =
      let r = at_onward p 0 0 pss (omega arith) e in
      from_start p r.0 (get_or pss p []) (subst (λ q. parents_at f q r.0 ≡ Ok (get_or pss p [])) (let z : 0 + p ≡ p = omega arith in z) r.1)

  pub start_read : (p start : ℕ) (r : Result (List ℕ) ℕ) → r ≡ parents_at f p start → start ≡ (part_row f p).second - mark → p < f.count →
      (all : List (List ℕ)) → parents_of_all f ≡ Ok all → r ≡ Ok (get_or all p [])
  start_read p start r e is lt all read = e ∙ ap (parents_at f p) is ∙ read_again all read p lt

  -- where nothing is wrong, there are the parents of each commit
  pub all_read : failed_at (parents_of_all f) ≡ None → (all : List (List ℕ)) × (parents_of_all f ≡ Ok all)
  all_read fine = (listed_in (parents_of_all f), read_whole (parents_of_all f) fine)

  pub parents_held : failed_at (parents_of_all f) ≡ None → (p : ℕ) (ps : List ℕ) → ((all : List (List ℕ)) → parents_of_all f ≡ Ok all → ps ≡ get_or all p []) → Held f.count ps
  parents_held fine p ps read =
      let ok = all_read fine in
      subst (Held f.count) (sym (read ok.0 ok.1))
      ((parents_named f.count f.rows.place f.edges.place 0 0 (part_rows f) (part_words f) ok.0 ok.1).held p)
