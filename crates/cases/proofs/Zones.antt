-- Zones of written rows: what counting and merging them comes to, by computation.
use Rattle.std.proofs.Common.{◌≡◌, ℕ, true, List, [], ◌∷◌, pos, ◌∙◌}
use Rattle.rules.specs.Rows.{Row}
use Rattle.rules.specs.Sets.{Entries}
use Rattle.rules.specs.Counting.{counted}
use Rattle.rules.specs.Merging.{merged}
use Rattle.columns.specs.declared.measure.Measure.{Measure}
use Rattle.columns.specs.Measures.{measured}
use Rattle.cases.specs.Listed.{measure_column}

abbrev pub one : ℕ → List (Row Measure)
one a = measured (pos a) ∷ []

abbrev pub two : ℕ → ℕ → List (Row Measure)
two a b = measured (pos a) ∷ measured (pos b) ∷ []

-- entries of zones merged, with rows that are known by equations
pub zones_at : (es : Entries Measure Measure) (ps qs cs ds : List (Row Measure)) → es ≡ merged measure_column true (counted measure_column ps) (counted measure_column qs) → ps ≡ cs → qs ≡ ds → es ≡ merged measure_column true (counted measure_column cs) (counted measure_column ds)
zones_at es ps qs cs ds e p q = e ∙ (λ i. merged measure_column true (counted measure_column (p i)) (counted measure_column (q i)))

pub one_at : (x : Row Measure) (a : ℕ) → x ≡ measured (pos a) → (x ∷ []) ≡ one a
one_at x a p = λ i. p i ∷ []

pub two_at : (x y : Row Measure) (a b : ℕ) → x ≡ measured (pos a) → y ≡ measured (pos b) → (x ∷ y ∷ []) ≡ two a b
two_at x y a b p q = λ i. p i ∷ q i ∷ []
