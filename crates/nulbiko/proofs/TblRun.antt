-- What a run of tbl came to, said of what its caller knows.
use Rattle.std.proofs.Common.{◌≡◌, ℕ, List, Bool, true, false, Option, refl, ap, subst, ◌∙◌, arith}
use Rattle.nr_units.specs.Failures.{next_count}
use Rattle.nr_units.specs.Source.{Supply}
use Rattle.nr_vectors.specs.Items.{Items}
use Rattle.tbl_table.specs.declared.signs.Signs.{Signs}
use Rattle.tbl_setting.specs.Bounds.{Bounds}
use Rattle.tbl_setting.specs.Running.{Ran, is_read_fault}
use Rattle.tbl_reader.specs.Running.{TellsReads}
use Rattle.tbl_reader.specs.declared.complaint.Complaint.{Complaint}
use Rattle.tbl_reader.specs.declared.running.ReadEnd.{ReadEnd}
use Rattle.tbl_reader.specs.declared.running.ReadEnd.TheVariants.{Done, ReadFault, TooLong, WriteFault}
use Rattle.nulbiko.specs.Tbl.{bounds}

-- bounds are those of a line, part by part
pub bounds_made : (b : Bounds) (signs : Signs) (line : ℕ) → b.signs ≡ signs → b.limits.formats ≡ 262144
    → b.limits.row ≡ 16384 → b.cells ≡ line → b.fits ≡ true → b ≡ bounds signs line
bounds_made b signs line drawn formats row cells fits =
    let made : Signs → ℕ → ℕ → ℕ → Bool → Bounds = λ g f r n w. record { signs = g; limits = record { formats = f; row = r }; cells = n; fits = w } in
    let of = bounds signs line in
    ap (λ (g : Signs). made g b.limits.formats b.limits.row b.cells b.fits) drawn
    ∙ ap (λ (f : ℕ). made of.signs f b.limits.row b.cells b.fits) formats
    ∙ ap (λ (r : ℕ). made of.signs of.limits.formats r b.cells b.fits) row
    ∙ ap (λ (n : ℕ). made of.signs of.limits.formats of.limits.row n b.fits) cells
    ∙ ap (λ (w : Bool). made of.signs of.limits.formats of.limits.row of.cells w) fits

-- by the same bounds, with the same bytes before and after
pub carried : (b b' : Bounds) (q q' left : Option Supply) (old old' new new' : Option (List ℕ)) (kept : Items Complaint) (missed uneven : Bool) (o : ReadEnd)
    → Ran b q left old new kept missed uneven o → b ≡ b' → q ≡ q' → old ≡ old' → new ≡ new' → Ran b' q' left old' new' kept missed uneven o
carried b b' q q' left old old' new new' kept missed uneven o ran bounds same before after =
    subst (λ z. Ran b' q' left old' z kept missed uneven o) after
    (subst (λ y. Ran b' q' left y new kept missed uneven o) before
    (subst (λ x. Ran b' x left old new kept missed uneven o) same
    (subst (λ c. Ran c q left old new kept missed uneven o) bounds ran)))

-- where no call of the source failed, none is reported
pub unread : (o : ReadEnd) → TellsReads o 0 0 → is_read_fault o ≡ false
unfolding next_count
unread Done e = refl
unread (ReadFault at) e = absurd (omega (arith, e))
unread TooLong e = refl
unread WriteFault e = refl
