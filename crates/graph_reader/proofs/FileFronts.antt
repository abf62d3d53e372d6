-- A file as its front and its chunks. Assumes nothing.
use Rattle.std.proofs.Common.{◌≡◌, ℕ, Bool, cond, ltb, List, [], ◌∷◌, ◌++◌, codes, ap, ◌∙◌, ap₂}
use Rattle.graph_file.specs.Layout.{Layout, file_bytes}
use Rattle.graph_file.specs.Placing.{Sized}
use Rattle.graph_file.proofs.FileParts.{chunk_bytes}
use Rattle.graph_file.proofs.Fronts.{entries, has_edges_is, contents_is}

-- the header of a file with four chunks, or with three
abbrev pub header_by : Bool → List ℕ
header_by b = codes "CGPH" ++ (1 ∷ (1 ∷ (cond b 4 3 ∷ (0 ∷ []))))

-- the header and the table of chunks, by the sizes, in front of the chunks
abbrev pub fronted : Bool → ℕ → ℕ → List ℕ → List ℕ
fronted b commits edges rest = header_by b ++ (entries b commits commits edges ++ rest)

pub file_fronted : (l : Layout) (commits edges : ℕ) → Sized l commits edges → file_bytes l ≡ fronted (ltb 0 edges) commits edges (chunk_bytes l)
file_fronted l commits edges s =
    ap₂ (λ h t. h ++ (t ++ chunk_bytes l)) (ap header_by (has_edges_is l.edges ∙ ap (ltb 0) s.words)) (contents_is l commits edges s)
