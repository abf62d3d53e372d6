-- What a file is refused for, as far as its container goes: the first place whose test fails. Assumes nothing.
use Rattle.std.specs.Prelude.{ℕ, ◌-◌, ◌/◌, ◌%◌, Bool, cond, ◌&&◌, ◌||◌, List, [], ◌∷◌, length, Some, None, codes, Option, ◌==◌, nat_le, nat_lt, slice_index}
use Rattle.std.specs.Option.{option_map}
use Rattle.history.specs.declared.load_fault.ContainerFault.{ContainerFault}
use Rattle.history.specs.declared.load_fault.ContainerFault.TheVariants.{TooShort, WrongHeader, WrongContents}
use Rattle.graph_reader.specs.Bytes.{word_at, long_at, chunks_begin, ids_begin, data_end}

-- a test of a file, with the byte place that it is about
pub record Test : Type 0 where
  pub place : ℕ
  pub passed : Bool

abbrev pub first_failing : List Test → Option ℕ
first_failing [] = None
first_failing (t ∷ ts) = cond t.passed (first_failing ts) (Some t.place)

abbrev pub test : ℕ → Bool → Test
test at passed = record { place = at; passed = passed }

-- the first of two that is there
abbrev pub either : {X : Type 0} → Option X → Option X → Option X
either None y = y
either (Some x) y = Some x

-- a distance is a whole number of steps, from `least` to `most` of them
abbrev pub stepped_by : ℕ → ℕ → ℕ → ℕ → ℕ → Bool
stepped_by step least most from to = nat_le from to && ((to - from) % step == 0 && (nat_le least ((to - from) / step) && nat_le ((to - from) / step) most))

module _ (bytes : List ℕ) where
  abbrev is : ℕ → ℕ → Test
  is at byte = test at (slice_index bytes at == byte)

  abbrev named : ℕ → List ℕ → Test
  named at name = test at (word_at bytes at == word_at name 0)

  abbrev placed : ℕ → ℕ → Test
  placed at place = test at (long_at bytes at == place)

  -- "CGPH", 1, 1, three or four chunks, 0
  abbrev pub header_tests : List Test
  header_tests =
      is 0 67 ∷ (is 1 71 ∷ (is 2 80 ∷ (is 3 72 ∷ (is 4 1 ∷ (is 5 1
      ∷ (test 6 (slice_index bytes 6 == 3 || slice_index bytes 6 == 4) ∷ (is 7 0 ∷ [])))))))

  -- names and places of the chunks: each must be one that some number of commits up to 65,536, and some number of extra edges from 2 to 262,144, allow
  abbrev pub contents_tests : List Test
  contents_tests =
      named 8 (codes "OIDF") ∷ (placed 12 (chunks_begin bytes) ∷ (named 20 (codes "OIDL") ∷ (placed 24 (ids_begin bytes)
      ∷ (named 32 (codes "CDAT") ∷ (test 36 (stepped_by 20 0 65536 (ids_begin bytes) (long_at bytes 36)) ∷ [])))))

  -- the end of the table of a file with three chunks, and with four; the last test is of the file's length
  abbrev pub three_tests : List Test
  three_tests = test 44 (word_at bytes 44 == 0) ∷ (placed 48 (data_end bytes) ∷ (placed 48 (length bytes) ∷ []))

  abbrev pub four_tests : List Test
  four_tests =
      named 44 (codes "EDGE") ∷ (placed 48 (data_end bytes) ∷ (test 56 (word_at bytes 56 == 0)
      ∷ (test 60 (stepped_by 4 2 262144 (data_end bytes) (long_at bytes 60)) ∷ (placed 60 (length bytes) ∷ []))))

  abbrev pub end_tests : List Test
  end_tests = cond (slice_index bytes 6 == 3) three_tests four_tests

  -- the first fault of the container, if it has one
  abbrev pub container_fault : Option ContainerFault
  container_fault =
      cond (nat_lt (length bytes) 1080) (Some (TooShort (length bytes)))
      (either (option_map WrongHeader (first_failing header_tests))
      (either (option_map WrongContents (first_failing contents_tests)) (option_map WrongContents (first_failing end_tests))))
