use Rattle.std.proofs.Common.{◌≡◌, [], length, map, ap, ◌∙◌, arith}
use Rattle.std.proofs.lemmas.List.{length-replicate}
use Rattle.nr_vectors.specs.Items.{Items}
use Rattle.nr_pool.specs.Texts.{no_text}
use Rattle.nr_symbol_tables.specs.Rows.{SymbolTable}
use Rattle.nr_symbol_tables.specs.Given.{word_in}
use Rattle.nr_levels.specs.Levels.{Levels}
use Rattle.nr_levels.specs.Gathering.{Gathering, none_gathered}
use Rattle.nr_store.specs.declared.element.Element.{Element}
use Rattle.nr_store.specs.declared.request.TheConstants.{REQUESTS}
use Rattle.nr_store.specs.Store.{Stored, nothing, charge_beside}
use Rattle.nr_store.specs.Request.{with_senses, request_names}
use Rattle.nr_store.specs.Holders.{beside_of}
use Rattle.nr_store.proofs.Beginning.{begins_empty, begun}
use Rattle.nr_store.proofs.store.Store.clear.Goals as goal

pub invariant_of-self : goal.invariant_of-self
invariant_of-self g c =
    let s = c.self.inside in
    let kept = c.self.invariant in
    let n = length s.pool.texts in
    let empty = c.remove_all.ensures.empty in
    let capacity = c.remove_all.ensures.capacity in
    let before = c.clear.ensures in
    let named = ap (λ (t : SymbolTable _). t.entries) c.name_requests.ensures ∙ ap (λ (t : SymbolTable _). with_senses REQUESTS t.entries) before in
    let room = ap (λ (t : SymbolTable _). t.capacity) c.name_requests.ensures ∙ ap (λ (t : SymbolTable _). t.capacity) before in
    let drafts_room = ap (λ (v : Items _). v.capacity) c.clear-2.ensures in
    let levels_room = ap (λ (v : Levels _). v.capacity) c.clear-3.ensures in
    let gathering_room = ap (λ (v : Gathering). v.capacity) c.clear-4.ensures in
    let registers_room = ap (λ (v : SymbolTable _). v.capacity) c.clear-5.ensures in
    let traps_room = c.clear-6.ensures.room in
    let words_room = ap (λ (v : Items _). v.capacity) c.clear-7.ensures in
    let texts : length c.remove_all.new.self.texts ≡ n = ap length empty ∙ length-replicate n (no_text {T = Element}) in
    let no_words = ap (λ (v : Items _). charge_beside none_gathered [] [] (map word_in v.items)) c.clear-7.ensures in
    let no_gathered = ap (λ (v : Gathering). charge_beside v.gathered [] [] []) c.clear-4.ensures in
    let no_registers = ap (λ (v : SymbolTable _). length v.entries) c.clear-5.ensures in
    let no_traps = ap length c.clear-6.ensures.items in
    let small = kept.small in
    let elements = kept.elements_suffice in
    let slots = kept.slots_suffice in
    let names = kept.names_suffice in
    let drafts = kept.drafts_suffice in
    let bytes = kept.bytes_suffice in
    let beside = kept.beside_suffices in
    let gathering = beside.gathering in
    let registers = beside.registers in
    let traps = beside.traps in
    let words = beside.words in
    begins_empty c.remove_all.new.self c.name_requests.new.names c.clear-2.new.self c.clear-3.new.self (beside_of c.clear-4.new.self c.clear-5.new.self c.clear-6.new.self c.clear-7.new.self) s.stored n empty named
    (ap (λ (v : Items _). v.items) c.clear-2.ensures) (ap (λ (v : Levels _). v.levels) c.clear-3.ensures) (omega arith)
    (omega arith) (omega arith) (omega arith) (omega arith) (omega arith) (omega arith) (record { gathering = omega arith; registers = omega arith; traps = omega arith; words = omega arith })

pub returns : goal.returns
returns g c =
    let s = c.self.inside in
    let named = ap (λ (t : SymbolTable _). t.entries) c.name_requests.ensures ∙ ap (λ (t : SymbolTable _). with_senses REQUESTS t.entries) c.clear.ensures in
    begun c.remove_all.new.self _ c.clear-2.new.self c.clear-3.new.self c.clear-4.new.self c.clear-5.new.self c.clear-6.new.self c.clear-7.new.self s.stored _ s.levels.most named
    (ap (λ (v : Items _). v.items) c.clear-2.ensures) c.clear-3.ensures (ap (λ (v : Gathering). v.gathered) c.clear-4.ensures) (ap (λ (t : SymbolTable _). t.entries) c.clear-5.ensures) c.clear-6.ensures.items
    (ap (λ (v : Items _). v.items) c.clear-7.ensures) ∙ ap (λ (v : Stored _). nothing request_names v.limit v.deepest) c.self.view_is
