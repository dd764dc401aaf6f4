-- What is reported of tables is what is wrong with those of a page.
use Rattle.std.proofs.Common.{◌≡◌, ℕ, List, [], ◌++◌, length, take, nat_lt, Bool, Option, Some, None, refl, sym, ap, ◌∙◌, append-nil}
use Rattle.nr_vectors.specs.Items.{Items}
use Rattle.nr_units.specs.Source.{Supply}
use Rattle.tbl_reader.specs.Running as reading
use Rattle.tbl_reader.specs.declared.complaint.Complaint.{Complaint}
use Rattle.tbl_reader.specs.declared.running.ReadEnd.TheVariants as outcomes
use Rattle.tbl_setting.specs.Bounds.{Bounds}
use Rattle.tbl_setting.specs.Running.{Ran}
use Rattle.tbl_command.specs.Complaints.{lines_of}
use Rattle.tbl_command.specs.Looking.{AreReportedOf, all_wrong, bounds_for, goes_in_parts, lines_of_page, lines_of_tables}
use Rattle.tbl_command.specs.declared.arguments.Job.{Job}
use Rattle.tbl_command.specs.declared.looking.Tables.{Tables}

-- all of it came
came : (first last : Option Supply) (bytes : List ℕ) (q : Supply) → first ≡ Some q → reading.Came first bytes last → reading.Ends first last → bytes ≡ q.bytes
came None last bytes q is comes ends = absurd (cc)
came (Some p) None bytes q is comes ends = absurd comes
came (Some p) (Some t) bytes q is comes ends =
    let same : p ≡ q = cc in
    sym (append-nil bytes) ∙ (ap (λ (l : List ℕ). bytes ++ l) (sym ends) ∙ (sym comes ∙ ap (λ (s : Supply). s.bytes) same))

pub reported_of : (job : Job) (b : Bounds) (first last : Option Supply) (held new : Option (List ℕ)) (kept : Items Complaint) (tables : Tables) (q : Supply)
    → b ≡ bounds_for job → first ≡ Some q → Ran b first last held new kept tables.report.missed tables.report.uneven outcomes.Done
    → kept.capacity ≡ 64 → tables.complaints.items ≡ kept.items → AreReportedOf job q.bytes tables
reported_of job b first last held new kept tables q bounds is ran room items =
    let bytes = came first last ran.bytes q is ran.came ran.ends in
    let wrong : all_wrong b ran.bytes ≡ all_wrong (bounds_for job) q.bytes = ap (all_wrong b) bytes ∙ ap (λ (x : Bounds). all_wrong x q.bytes) bounds in
    record {
      first = items ∙ (ran.puts.keeps.first ∙ (ap (λ (n : ℕ). take n (all_wrong b ran.bytes)) room ∙ ap (take 64) wrong));
      more = ran.puts.keeps.others ∙ (ap (λ (n : ℕ). nat_lt n (length (all_wrong b ran.bytes))) room ∙ ap (λ (cs : List Complaint). nat_lt 64 (length cs)) wrong);
      parts = ran.puts.parts ∙ (ap (goes_in_parts b) bytes ∙ ap (λ (x : Bounds). goes_in_parts x q.bytes) bounds);
    }

-- the lines about them are those of the page
pub lines-reported : (program name : List ℕ) (job : Job) (page : List ℕ) (tables : Tables) → AreReportedOf job page tables
    → lines_of_tables program name tables ≡ lines_of_page program name job page
lines-reported program name job page tables are =
    ap (λ (x : List Complaint). lines_of program name x tables.report.missed tables.report.uneven) are.first
    ∙ (ap (λ (x : Bool). lines_of program name (take 64 (all_wrong (bounds_for job) page)) x tables.report.uneven) are.more
    ∙ ap (λ (x : Bool). lines_of program name (take 64 (all_wrong (bounds_for job) page)) (nat_lt 64 (length (all_wrong (bounds_for job) page))) x) are.parts)
