-- The commits of a file without fault are sound. Assumes nothing.
use Rattle.std.proofs.Common.{◌≡◌, ℕ, zero, suc, ◌+◌, ◌-◌, ◌*◌, ◌<◌, true, List, [], length, get_or, None, Ok, fold, sym, ◌∙◌, subst, ⊎_elim, arith}
use Rattle.std.proofs.lemmas.Bool.{cases_lt, eqb-true}
use Rattle.history.specs.Generations.{above}
use Rattle.history.specs.Ids.{precedes}
use Rattle.history.proofs.Ids.{precedes_transitive}
use Rattle.history.specs.declared.load_fault.ChunkFault.TheVariants.{WrongFanOut, UnorderedId, WrongParent}
use Rattle.history.specs.declared.load_fault.HistoryFault.TheVariants.{WrongLevel}
use Rattle.history.specs.declared.load_fault.LoadFault.TheVariants.{Chunk, History}
use Rattle.graph_reader.specs.Bytes.{id_at, row_at, ids_begin, data_begin, data_end, told_count, id_chunk, data_chunk, layout_in}
use Rattle.graph_reader.specs.ChunkFaults.{order_test}
use Rattle.graph_reader.specs.Faults.{container_fault}
use Rattle.graph_reader.specs.FileCommits.{Sound, file_level}
use Rattle.graph_reader.specs.Levels.{levels_in, level_by, level_test}
use Rattle.graph_reader.specs.Verdict.{failed_at, parents_read, parents_in, fan_out_fault, order_fault, chunk_fault, level_fault, file_fault}
use Rattle.graph_reader.proofs.ContainerSizes.{few_commits, length_id_chunk, length_data_chunk}
use Rattle.graph_reader.proofs.CountedTests.{counted_pass}
use Rattle.graph_reader.proofs.LayoutBytes.{between_bytes, wide_slice}
use Rattle.graph_reader.proofs.LevelSteps.{length_levels, level_at}
use Rattle.graph_reader.proofs.Options.{either_none, mapped_none}
use Rattle.graph_reader.proofs.ParentCodes.{Named, parents_named}
use Rattle.graph_reader.proofs.ParentPass.{read_whole}
use Rattle.graph_reader.proofs.Renumbering.{climbed_same}
use Rattle.graph_reader.proofs.WordBytes.{AllBytes, word_small}

-- no layer of the file has a fault
pub record Faultless (bytes : List ℕ) : Type 0 where
  pub container : container_fault bytes ≡ None
  pub fan_out : fan_out_fault bytes ≡ None
  pub order : order_fault bytes ≡ None
  pub parents : failed_at (parents_read bytes) ≡ None
  pub read : parents_read bytes ≡ Ok (parents_in bytes)
  pub levels : level_fault bytes ≡ None

pub faultless : (bytes : List ℕ) → file_fault bytes ≡ None → Faultless bytes
unfolding file_fault
faultless bytes e =
    let a = either_none _ (container_fault bytes) _ e in
    let chunks = either_none Chunk (chunk_fault bytes) _ a.1 in
    let b = either_none WrongFanOut (fan_out_fault bytes) _ chunks.0 in
    let c = either_none UnorderedId (order_fault bytes) _ b.1 in
    let parents = mapped_none WrongParent (failed_at (parents_read bytes)) c.1 in
    record {
      container = a.0;
      fan_out = b.0;
      order = c.0;
      parents = parents;
      read = read_whole (parents_read bytes) parents;
      levels = mapped_none WrongLevel (level_fault bytes) (mapped_none History _ chunks.1);
    }

-- the parents that the rows of a file without fault name
pub file_named : (bytes : List ℕ) → Faultless bytes → Named (told_count bytes) 0 (layout_in bytes).rows (layout_in bytes).edges (parents_in bytes)
file_named bytes s = parents_named (told_count bytes) (data_begin bytes) (data_end bytes) 0 0 (layout_in bytes).rows (layout_in bytes).edges (parents_in bytes) s.read

-- what rises from each to the next rises throughout
rising_on : (f : ℕ → List ℕ) (n : ℕ) → ((p : ℕ) → suc p < n → precedes (f p) (f (suc p)) ≡ true) → (i j : ℕ) → i < j → j < n → precedes (f i) (f j) ≡ true
rising_on f n next i zero l lt = absurd (omega arith)
rising_on f n next i (suc j) l lt =
    ⊎_elim
    (λ below. precedes_transitive (f i) (f j) (f (suc j)) (rising_on f n next i j below (omega arith)) (next j lt))
    (λ le. subst (λ k. precedes (f k) (f (suc j)) ≡ true) (let z : j ≡ i = omega arith in z) (next j lt))
    (cases_lt i j)

-- the date's low bits fit 32
pub low_small : (bytes : List ℕ) → AllBytes bytes → (p : ℕ) → (row_at (data_chunk bytes) p).low < 4294967296
low_small bytes low p =
    word_small (data_chunk bytes) (between_bytes (data_begin bytes) (data_end bytes) bytes low) (36 * p + 32)

module _ (bytes : List ℕ) (s : Faultless bytes) where
  ids_follow : (p : ℕ) → suc p < told_count bytes → precedes (id_at (id_chunk bytes) p) (id_at (id_chunk bytes) (suc p)) ≡ true
  ids_follow p lt =
      subst (λ k. precedes (id_at (id_chunk bytes) k) (id_at (id_chunk bytes) (suc p)) ≡ true) (let z : suc p - 1 ≡ p = omega arith in z)
      (counted_pass (order_test (id_chunk bytes) (ids_begin bytes)) 1 (told_count bytes - 1) p (suc p) s.order (omega arith) (omega arith))

  level_ruled : (p : ℕ) → p < told_count bytes → file_level bytes p ≡ fold (λ x q. above x (file_level bytes q)) 1 (get_or (parents_in bytes) p [])
  level_ruled p lt =
      let levels = levels_in (layout_in bytes).rows in
      let ps = get_or (parents_in bytes) p [] in
      let long = length_levels (data_chunk bytes) (told_count bytes) in
      let read = level_at (data_chunk bytes) (told_count bytes) in
      let passes = counted_pass (level_test (data_begin bytes) levels (parents_in bytes)) 0 (length levels) p p s.levels (omega arith) (omega arith) in
      sym (read p lt) ∙ eqb-true (get_or levels p 0) (level_by levels ps) passes
      ∙ climbed_same (λ q. get_or levels q 0) (file_level bytes) ps 1 (λ j l. read (get_or ps j 0) ((file_named bytes s).held p j l))

pub sound : (bytes : List ℕ) → ((i : ℕ) → get_or bytes i 0 < 256) → file_fault bytes ≡ None → Sound bytes
sound bytes low fine =
    let s = faultless bytes fine in
    let named = file_named bytes s in
    let ids = length_id_chunk bytes s.container in
    let rows = length_data_chunk bytes s.container in
    record {
      few = few_commits bytes s.container;
      wide = λ p lt. (wide_slice (id_chunk bytes) (20 * p) (omega arith), wide_slice (data_chunk bytes) (36 * p) (omega arith));
      dated = λ p lt. omega (arith, low_small bytes low p);
      short = λ p lt. named.few p;
      held = λ p j lt. named.held p j;
      rising = rising_on (id_at (id_chunk bytes)) (told_count bytes) (ids_follow bytes s);
      ruled = level_ruled bytes s;
    }
