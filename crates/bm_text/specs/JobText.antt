-- The job text of a map that was found.
use Rattle.std.specs.Prelude.{codes, ℕ, zero, suc, ◌+◌, ◌*◌, ◌^◌, List, ◌++◌, map, decimal}
use Rattle.std.specs.Int.{bit_at}
use Rattle.std.specs.List.{join_by, range_with_len}
use Rattle.bm_base.specs.declared.shape.Shape.{Shape}
use Rattle.bm_gf2.specs.declared.matrix.Matrix.{Matrix}
use Rattle.bm_gf2.specs.declared.affine.Affine.{Affine}
use Rattle.bm_gf2.specs.Matrix.{column}

-- row i of these columns, of which there are n: bit j is the entry at row i, column j
unfoldable pub row_of : (ℕ → ℕ) → ℕ → ℕ → ℕ
row_of columns zero i = 0
row_of columns (suc j) i = bit_at (columns j) i * 2 ^ j + row_of columns j i

-- the first k rows of a matrix
abbrev pub first_rows : Matrix → ℕ → List ℕ
first_rows a k = map (row_of (column a) a.n) (range_with_len 0 k)

-- the table of the shape, and what stands before the rows of the map
abbrev pub job_head : Shape → List ℕ
job_head s =
    codes "[shape]\nn = " ++ decimal s.n ++ codes "\nb = " ++ decimal s.b ++ codes "\nd = " ++ decimal s.d
    ++ codes "\nm = " ++ decimal s.m ++ codes "\nwidth = " ++ decimal s.width
    ++ codes "\n\n[map]\nkind = \"rows\"\nrows = ["

-- the rows in decimal, with a comma and a space between each two
abbrev pub row_list : List ℕ → List ℕ
row_list rows = join_by decimal (codes ", ") rows

-- the tables of a shape and of a map by its rows
abbrev pub job_text : Shape → Affine → List ℕ
job_text s f = job_head s ++ row_list (first_rows f.a f.a.n) ++ codes "]\ncomplement = " ++ decimal f.c ++ codes "\n"
