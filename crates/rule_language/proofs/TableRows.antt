-- A row keeps a table well formed.
use Rattle.std.proofs.Common.{◌≡◌, ℕ, ◌+◌, ◌<◌, ◌≤◌, false, List, [], ◌∷◌, ◌++◌, length, arith, length-append}
use Rattle.std.specs.Prelude.{All, IsTrue}
use Rattle.std.proofs.lemmas.List.Elements.{All-push}
use Rattle.preorder.specs.Name.{is_name}
use Rattle.preorder.specs.declared.row.Row.{Row}
use Rattle.rule_language.specs.declared.limits.TheConstants.{MAX_ROWS, MAX_TABLE_VALUE}
use Rattle.rule_language.specs.Names.{has_name}
use Rattle.rule_language.specs.Tables.{IsTable}
use Rattle.rule_language.proofs.Names.{different_more, fresh}

pub table_more : (width : ℕ) (rows : List Row) (row : Row) → IsTable width rows → IsTrue (is_name row.name) → has_name (λ (r : Row). r.name) row.name rows ≡ false → length rows < MAX_ROWS → length row.values ≡ width → All (λ (v : ℕ). v ≤ MAX_TABLE_VALUE) row.values → IsTable width (rows ++ row ∷ [])
table_more width rows row old name new few wide small =
    let size : length (rows ++ row ∷ []) ≡ length rows + 1 = length-append rows (row ∷ []) in
    record {
      few = omega (arith, size);
      names = All-push (λ (r : Row). IsTrue (is_name r.name)) rows row old.names name;
      different = different_more (λ (r : Row). r.name) rows row old.different (fresh (λ (r : Row). r.name) row.name rows new);
      wide = All-push (λ (r : Row). length r.values ≡ width) rows row old.wide wide;
      small = All-push (λ (r : Row). All (λ (v : ℕ). v ≤ MAX_TABLE_VALUE) r.values) rows row old.small small;
    }
