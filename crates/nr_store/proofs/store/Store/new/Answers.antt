use Rattle.std.proofs.Common.{◌≡◌, [], length, ap, ◌∙◌}
use Rattle.std.proofs.lemmas.List.{length-replicate}
use Rattle.nr_vectors.specs.Items.{Items}
use Rattle.nr_pool.specs.Texts.{Texts, no_text}
use Rattle.nr_symbol_tables.specs.Rows.{SymbolTable}
use Rattle.nr_levels.specs.Levels.{Levels}
use Rattle.nr_levels.specs.Gathering.{Gathering}
use Rattle.nr_store.specs.declared.element.Element.{Element}
use Rattle.nr_store.specs.declared.memory.Room.{Room}
use Rattle.nr_store.specs.Holders.{beside_of}
use Rattle.nr_store.proofs.Beginning.{begins_empty, begun, costs_nothing, taken_by_all}
use Rattle.nr_store.proofs.store.Store.new.Goals as goal

pub invariant_of-result : goal.invariant_of-result
invariant_of-result g c =
    let r = c.of-room.result in
    let n = r.slots in
    let room_is = c.of-room.ensures in
    let elements_is = ap (λ (x : Room). x.elements) room_is in
    let slots_is = ap (λ (x : Room). x.slots) room_is in
    let names_is = ap (λ (x : Room). x.names) room_is in
    let drafts_is = ap (λ (x : Room). x.drafts) room_is in
    let bytes_is = ap (λ (x : Room). x.bytes) room_is in
    let gathering_is = ap (λ (x : Room). x.gathering) room_is in
    let registers_is = ap (λ (x : Room). x.registers) room_is in
    let traps_is = ap (λ (x : Room). x.traps) room_is in
    let words_is = ap (λ (x : Room). x.words) room_is in
    let pool = c.into_parts-pool.result.0 in
    let beside = c.in_ok-gathering.field-0 in
    let empty = ap (λ (p : Texts Element). p.texts) c.into_parts-pool.ensures.pool ∙ c.in_ok-held.ensures.empty in
    let capacity = ap (λ (p : Texts Element). p.capacity) c.into_parts-pool.ensures.pool ∙ c.in_ok-held.ensures.capacity in
    let levels = c.into_parts-pool.ensures.levels ∙ c.in_ok-held.ensures.levels in
    let names = c.into_parts-names.ensures.names ∙ c.in_ok-named.ensures.names in
    let drafts = c.into_parts-names.ensures.drafts ∙ c.in_ok-named.ensures.drafts in
    let entries = ap (λ (t : SymbolTable _). t.entries) names in
    let room = ap (λ (t : SymbolTable _). t.capacity) names in
    let drafts_room = ap (λ (v : Items _). v.capacity) drafts in
    let levels_room = ap (λ (v : Levels _). v.capacity) levels in
    let gathering_room = ap (λ (v : Gathering). v.capacity) c.in_ok-gathering.ensures.gathering in
    let registers_room = ap (λ (v : SymbolTable _). v.capacity) c.in_ok-gathering.ensures.registers in
    let traps_room = ap (λ (v : Items _). v.capacity) c.in_ok-gathering.ensures.traps in
    let words_room = ap (λ (v : Items _). v.capacity) c.in_ok-gathering.ensures.words in
    let texts : length pool.texts ≡ n = ap length empty ∙ length-replicate n (no_text {T = Element}) in
    let fits = c.ranges.limit.fits in
    begins_empty pool c.into_parts-names.result.0 c.into_parts-names.result.1 c.into_parts-pool.result.1 (beside_of beside.gathering beside.registers beside.traps beside.words) c.args.limit n empty entries
    (ap (λ (v : Items _). v.items) drafts) (ap (λ (v : Levels _). v.levels) levels)
    (costs_nothing _ _ _ _ (ap (λ (v : Gathering). v.gathered) c.in_ok-gathering.ensures.gathering) (ap (λ (v : SymbolTable _). v.entries) c.in_ok-gathering.ensures.registers) (ap (λ (v : Items _). v.items) c.in_ok-gathering.ensures.traps)
    (ap (λ (v : Items _). v.items) c.in_ok-gathering.ensures.words)) fits (capacity ∙ elements_is) (texts ∙ slots_is) (room ∙ names_is) (drafts_room ∙ drafts_is) (levels_room ∙ bytes_is)
    (record { gathering = gathering_room ∙ gathering_is; registers = registers_room ∙ registers_is; traps = traps_room ∙ traps_is; words = words_room ∙ words_is })

pub returns-clause-made : goal.returns-clause-made
returns-clause-made g c =
    let names = c.into_parts-names.ensures.names ∙ c.in_ok-named.ensures.names in
    let drafts = c.into_parts-names.ensures.drafts ∙ c.in_ok-named.ensures.drafts in
    let beside = c.in_ok-gathering.field-0 in
    begun c.into_parts-pool.result.0 _ c.into_parts-names.result.1 c.into_parts-pool.result.1 beside.gathering beside.registers beside.traps beside.words c.args.limit _ c.args.deepest (ap (λ (t : SymbolTable _). t.entries) names)
    (ap (λ (v : Items _). v.items) drafts) (c.into_parts-pool.ensures.levels ∙ c.in_ok-held.ensures.levels ∙ ap (λ (x : Room). record { levels = []; arguments = []; capacity = x.bytes; most = x.frames }) c.of-room.ensures)
    (ap (λ (v : Gathering). v.gathered) c.in_ok-gathering.ensures.gathering) (ap (λ (v : SymbolTable _). v.entries) c.in_ok-gathering.ensures.registers) (ap (λ (v : Items _). v.items) c.in_ok-gathering.ensures.traps) (ap (λ (v : Items _). v.items) c.in_ok-gathering.ensures.words)

pub returns-clause-taken : goal.returns-clause-taken
returns-clause-taken g c =
    taken_by_all c.of-room.result c.args.limit c.args.deepest _ _ _ _ c.of-room.ensures c.in_ok-named.ensures.taken c.in_ok-held.ensures.taken c.in_ok-gathering.ensures.taken
