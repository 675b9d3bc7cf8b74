-- The store and the sink in memory, as contracts see them.
use Rattle.std.specs.Prelude.{ℕ, ◌+◌, ◌-◌, ◌^◌, ◌==◌, ◌||◌, Bool, false, nat_lt, if◌then◌else◌, min}
use Rattle.std.specs.Prelude.{List, [], ◌∷◌, ◌++◌, length, take, map, Option, None, Some, Result}
use Rattle.std.specs.Prelude.{Err, Vec, refl, is_none}
use Rattle.outside_io.specs.declared.LoadFault.{LoadFault}
use Rattle.outside_io.specs.declared.LoadFault.TheVariants as load
use Rattle.outside_io.specs.declared.SaveFault.{SaveFault}
use Rattle.outside_io.specs.declared.SaveFault.TheVariants as save
use Rattle.std.specs.declared.alloc.Global.{Global}
use Rattle.std.specs.Coded.{Coded, code_by, coded×, coded_ℕ, coded_list, coded_option}
use Rattle.std.specs.FinMap as finite
use Rattle.outside_io.specs.Outside.{Files}

-- A store in memory: its files, its faults, the names whose load failed, how many loads and saves
-- there were, which load is to fail, and which save after how many bytes.
pub record Memory : Type 0 where
  pub files : Files
  pub faults : ℕ
  pub failed : List (List ℕ)
  pub loads : ℕ
  pub load_to_fail : Option ℕ
  pub saves : ℕ
  pub save_to_fail : Option (ℕ × ℕ)

abbrev pub coded_files : Coded Files
coded_files = finite.code (coded_list coded_ℕ) (coded_list coded_ℕ)

abbrev pub coded_memory : Coded Memory
coded_memory =
    code_by
    (Files × (ℕ × (List (List ℕ) × (ℕ × (Option ℕ × (ℕ × Option (ℕ × ℕ)))))))
    (coded× coded_files (coded× coded_ℕ (coded× (coded_list (coded_list coded_ℕ))
    (coded× coded_ℕ (coded× (coded_option coded_ℕ)
    (coded× coded_ℕ (coded_option (coded× coded_ℕ coded_ℕ))))))))
    (λ m. (m.files, (m.faults, (m.failed, (m.loads, (m.load_to_fail, (m.saves, m.save_to_fail)))))))
    (λ p. record {
      files = p.0;
      faults = p.1.0;
      failed = p.1.1.0;
      loads = p.1.1.1.0;
      load_to_fail = p.1.1.1.1.0;
      saves = p.1.1.1.1.1.0;
      save_to_fail = p.1.1.1.1.1.1;
    })
    (λ _. refl)

-- names and bytes without where they lie in memory
abbrev pub pairs_of : List (Vec ℕ Global × Vec ℕ Global) → List (List ℕ × List ℕ)
pairs_of entries = map (λ e. (e.0.items, e.1.items)) entries

-- the files of a list of entries, of which the first under a name counts
abbrev pub files_of : List (Vec ℕ Global × Vec ℕ Global) → Files
files_of entries = finite.from_entries (pairs_of entries)

abbrev pub names_of : List (Vec ℕ Global) → List (List ℕ)
names_of names = map (λ n. n.items) names

-- a count that stays at its type's end
abbrev pub next : ℕ → ℕ
next n = min (n + 1) (2 ^ 64 - 1)

-- whether the call of this number is the one that is to fail
abbrev pub is_named : Option ℕ → ℕ → Bool
is_named None number = false
is_named (Some nth) number = nth == number

-- whether the next load of this name fails
abbrev pub load_fails : Memory → List ℕ → Bool
load_fails m name = is_named m.load_to_fail (next m.loads) || is_none (finite.get m.files name)

-- the store after a load with this answer
abbrev pub after_load : Memory → List ℕ → Result (Vec ℕ Global) LoadFault → Memory
after_load m name (Err load.Failed) =
    record m { loads = next m.loads; faults = next m.faults; failed = m.failed ++ name ∷ [] }
after_load m name answer = record m { loads = next m.loads }

-- whether the call of this number is the one that is to fail
abbrev pub is_named_part : Option (ℕ × ℕ) → ℕ → Bool
is_named_part None number = false
is_named_part (Some p) number = p.0 == number

-- how many bytes of so many the call of this number keeps
abbrev pub part_kept : Option (ℕ × ℕ) → ℕ → ℕ → ℕ
part_kept None number len = len
part_kept (Some p) number len = if p.0 == number then min p.1 len else len

-- whether the next save fails
abbrev pub save_fails : Memory → Bool
save_fails m = is_named_part m.save_to_fail (next m.saves)

-- the store after a save with this answer
abbrev pub after_save : {T : Type 0} → Memory → List ℕ → List ℕ → Result T SaveFault → Memory
after_save m name bytes (Err save.NoMemory) = record m { saves = next m.saves }
after_save m name bytes answer = record m {
  files =
      finite.insert m.files name (take (part_kept m.save_to_fail (next m.saves)
      (length bytes)) bytes);
  saves = next m.saves;
  faults = if save_fails m then next m.faults else m.faults;
}

-- a sink in memory: what was written, its room and faults, how many writes there were, and which
-- one is to fail after how many bytes
pub record Paper : Type 0 where
  pub written : List ℕ
  pub room : ℕ
  pub faults : ℕ
  pub writes : ℕ
  pub write_to_fail : Option (ℕ × ℕ)

abbrev pub write_fails : Paper → List ℕ → Bool
write_fails p bytes =
    is_named_part p.write_to_fail (next p.writes)
    || nat_lt (p.room - length p.written) (length bytes)

-- how many bytes the next write takes
abbrev pub write_takes : Paper → List ℕ → ℕ
write_takes p bytes =
    min (part_kept p.write_to_fail (next p.writes) (length bytes)) (p.room - length p.written)

abbrev pub after_write : Paper → List ℕ → Paper
after_write p bytes = record p {
  written = p.written ++ take (write_takes p bytes) bytes;
  faults = if write_fails p bytes then next p.faults else p.faults;
  writes = next p.writes;
}
