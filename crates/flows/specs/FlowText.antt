-- The text of a flow, as `10.0.0.1:80>10.0.0.2:81/6`.
use Rattle.std.specs.Prelude.{ℕ, ◌+◌, ◌*◌, List, ◌++◌, codes, decimal, slice_index}
use Rattle.std.specs.Net.Text.{dotted_text}
use Rattle.seating.specs.Layouts.{Key}

-- the text of 13 bytes: `source:port>destination:port/protocol`
abbrev pub flow_as_text : Key → List ℕ
flow_as_text k =
    dotted_text (slice_index k 0) (slice_index k 1) (slice_index k 2) (slice_index k 3)
    ++ (codes ":" ++ (decimal (slice_index k 8 * 256 + slice_index k 9)
    ++ (codes ">" ++ (dotted_text (slice_index k 4) (slice_index k 5) (slice_index k 6) (slice_index k 7)
    ++ (codes ":" ++ (decimal (slice_index k 10 * 256 + slice_index k 11)
    ++ (codes "/" ++ decimal (slice_index k 12))))))))
