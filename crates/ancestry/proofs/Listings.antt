-- The list of merge bases, along the walk. Assumes nothing.
use Rattle.std.proofs.Common.{◌≡◌, ℕ, ◌+◌, ◌<◌, ◌≤◌, List, [], ◌∷◌, ◌++◌, length, get_or, set, sym, refl, ap, ◌∙◌, subst, subst₂, arith}
use Rattle.std.proofs.lemmas.List.{length_push}
use Rattle.history.specs.History.{Commit, Parent}
use Rattle.ancestry.specs.declared.goal.Goal.TheVariants.{Bases as ForBases}
use Rattle.ancestry.specs.declared.paint.Paint.{Paint}
use Rattle.ancestry.specs.declared.paint.Paint.TheVariants.{Left, Right, Both}
use Rattle.ancestry.specs.Ancestry.{Bases, filled}
use Rattle.ancestry.specs.Painting.{paint_at, Painting, Progress, Advanced, Settled, laid}
use Rattle.ancestry.specs.Paints.{paint_of, byte_of}
use Rattle.ancestry.proofs.Basing.{no_base_below, bases_end, bases_more, bases_same}
use Rattle.ancestry.proofs.Bits.{zero_clear}
use Rattle.history.proofs.Chains.{chain_falls}
use Rattle.ancestry.proofs.Courses.{painting_on, painting_begins, mark_stands, paint_stands}
use Rattle.ancestry.proofs.Filling.{filled_none, filled_more}

-- paints are what they should be, and the merge bases from `low` on are listed, of a graph of so many commits
pub record Listing (h : List Commit) (size a b : ℕ) (s : Progress) (results results' : List ℕ) (found : ℕ) : Type 0 where
  pub commits : s.commits ≡ h
  pub goal : s.goal ≡ ForBases
  pub painting : Painting h a b s.low s.marks
  pub list : List ℕ
  pub bases : Bases h a b s.low list
  pub fills : results' ≡ filled list results
  pub counts : found ≡ length list
  pub fits : found + s.low ≤ size

not_painted : (x : ℕ) (p : Paint) → x ≡ 0 → (byte_of p ≡ 0 → ⊥) → paint_of x ≡ p → ⊥
not_painted x p e ne is = ne (sym (ap byte_of is) ∙ ap byte_of (zero_clear x e))

module _ (h : List Commit) (falling : (a p : ℕ) → Parent h a p → p < a) (size a b : ℕ) (results : List ℕ) where
  pub listing_begins : (marks : List ℕ) → ((k : ℕ) → get_or marks k 0 ≡ 0) → a < length marks → b < length marks → length marks ≤ size →
      (s : Progress) → s ≡ record { commits = h; goal = ForBases; marks = laid Right (laid Left marks a) b; low = length marks } → Listing h size a b s results results 0
  listing_begins marks clear in_a in_b held s is =
      let low = ap (λ p. p.low) is in
      record {
        commits = ap (λ p. p.commits) is;
        goal = ap (λ p. p.goal) is;
        painting = subst₂ (λ n l. Painting h a b n l) (sym low) (sym (ap (λ p. p.marks) is)) (painting_begins h a b marks clear in_a in_b);
        list = [];
        bases = record {
          falling = λ i j lt l. absurd (omega arith);
          each = λ i lt. absurd (omega arith);
          high = λ i lt. absurd (omega arith);
          all = λ k le base. let r = base.common.0 in absurd (omega (arith, low, chain_falls h falling a k r.0 r.1));
        };
        fills = filled_none results;
        counts = refl;
        fits = omega (arith, low);
      }

  module _ (s s' : Progress) (c : ℕ) (paint : Paint) (step' : Advanced s.commits s s' c paint)
      (now : List ℕ) (found : ℕ) (old : Listing h size a b s results now found) where
    step : Advanced h s s' c paint
    step = subst (λ k. Advanced k s s' c paint) old.commits step'

    on : Painting h a b c s'.marks
    on = painting_on h falling a b s s' c paint step old.painting

    skips : (k : ℕ) → c < k → k < s.low → paint_at s'.marks k ≡ Both → ⊥
    skips k lt l =
        not_painted (get_or s'.marks k 0) Both (mark_stands h falling a b s s' c paint step k (omega arith) ∙ step.skipped k lt l) (λ e. omega arith)

    here_is : paint_at s'.marks c ≡ paint
    here_is = paint_stands h falling a b s s' c paint step

    listed : (list next : List ℕ) (found' : ℕ) → Bases h a b c list → next ≡ filled list results → found' ≡ length list → found' ≤ found + 1 →
        Listing h size a b s' results next found'
    listed list next found' bases fills counts le = record {
      commits = step.commits ∙ old.commits;
      goal = step.goal ∙ old.goal;
      painting = subst (λ l. Painting h a b l s'.marks) (sym step.lower) on;
      list = list;
      bases = subst (λ l. Bases h a b l list) (sym step.lower) bases;
      fills = fills;
      counts = counts;
      fits = omega (arith, step.lower, step.under, old.fits);
    }

    pub listing_more : paint ≡ Both → (next : List ℕ) → next ≡ set now found c → Listing h size a b s' results next (found + 1)
    listing_more e next wrote =
        listed (old.list ++ (c ∷ [])) next (found + 1) (bases_more h falling a b c s'.marks on s.low old.list step.under skips old.bases (here_is ∙ e))
        (wrote ∙ ap (λ l. set l found c) old.fills ∙ ap (λ n. set (filled old.list results) n c) old.counts ∙ filled_more old.list results c)
        (omega (arith, old.counts, length_push old.list c)) (omega arith)

    pub listing_same : (paint ≡ Both → ⊥) → Listing h size a b s' results now found
    listing_same ne =
        listed old.list now found (bases_same h falling a b c s'.marks on s.low old.list step.under skips old.bases (λ e. ne (sym here_is ∙ e))) old.fills old.counts (omega arith)

  pub listing_ends : (s : Progress) → Settled s.goal s → (now : List ℕ) (found : ℕ) → Listing h size a b s results now found →
      (list : List ℕ) × Bases h a b 0 list × (now ≡ filled list results) × (found ≡ length list)
  listing_ends s settled now found old =
      let none = subst (λ goal. Settled goal s) old.goal settled in
      let base = no_base_below h falling a b s.low s.marks old.painting none.0 none.1 in
      (old.list, bases_end h falling a b s.low s.marks old.painting base old.list old.bases, old.fills, old.counts)
