-- Agrees with SPC-4, 'Commands for all device types', 'PERSISTENT RESERVE IN command', 'PERSISTENT RESERVE OUT command', 'Sense key and additional sense code definitions'; SBC-3, 'READ (10) command', 'WRITE (10) command'.
-- The numbers that definitions cite by their names.
use Rattle.std.specs.Prelude.{◌≡◌}
use Rattle.pr_cdb.specs.declared.codes.TheConstants.{TEST_UNIT_READY, REQUEST_SENSE, INQUIRY, READ_10, WRITE_10, PERSISTENT_RESERVE_IN, PERSISTENT_RESERVE_OUT, REPORT_LUNS, READ_KEYS, READ_RESERVATION, REPORT_CAPABILITIES, REGISTER, RESERVE, RELEASE, CLEAR, PREEMPT, PREEMPT_AND_ABORT, REGISTER_AND_IGNORE_EXISTING_KEY, APTPL, ALL_TG_PT, SPEC_I_PT, DESC, NO_SENSE, ILLEGAL_REQUEST, UNIT_ATTENTION, NO_ADDITIONAL_SENSE_INFORMATION, PARAMETER_LIST_LENGTH_ERROR, INVALID_COMMAND_OPERATION_CODE, LOGICAL_BLOCK_ADDRESS_OUT_OF_RANGE, INVALID_FIELD_IN_CDB, INVALID_FIELD_IN_PARAMETER_LIST, INVALID_RELEASE_OF_PERSISTENT_RESERVATION, POWER_ON, RESERVATIONS_PREEMPTED, RESERVATIONS_RELEASED, REGISTRATIONS_PREEMPTED, FIXED_FORMAT, MOST_NEXUSES, SIX_BYTE_CDB, TEN_BYTE_CDB, MOST_CDB_LENGTH, PARAMETER_LIST_LENGTH, FIXED_SENSE_LENGTH, ADDITIONAL_SENSE_LENGTH, HEADER_LENGTH, KEY_LENGTH, RESERVATION_LENGTH, RESERVATION_DATA_LENGTH, MOST_DATA_LENGTH}

-- operation codes (SPC-4, 'Commands for all device types'; SBC-3, 'READ (10)' and 'WRITE (10) command')
pub record OperationCodesAgree : Type 0 where
  pub test_unit_ready : TEST_UNIT_READY ≡ 0x00
  pub request_sense : REQUEST_SENSE ≡ 0x03
  pub inquiry : INQUIRY ≡ 0x12
  pub read_10 : READ_10 ≡ 0x28
  pub write_10 : WRITE_10 ≡ 0x2a
  pub persistent_reserve_in : PERSISTENT_RESERVE_IN ≡ 0x5e
  pub persistent_reserve_out : PERSISTENT_RESERVE_OUT ≡ 0x5f
  pub report_luns : REPORT_LUNS ≡ 0xa0

-- service actions of PERSISTENT RESERVE IN and PERSISTENT RESERVE OUT, and the flags of the latter's parameter list and of REQUEST SENSE
pub record ServiceActionsAgree : Type 0 where
  pub read_keys : READ_KEYS ≡ 0x00
  pub read_reservation : READ_RESERVATION ≡ 0x01
  pub report_capabilities : REPORT_CAPABILITIES ≡ 0x02
  pub register : REGISTER ≡ 0x00
  pub reserve : RESERVE ≡ 0x01
  pub release : RELEASE ≡ 0x02
  pub clear : CLEAR ≡ 0x03
  pub preempt : PREEMPT ≡ 0x04
  pub preempt_and_abort : PREEMPT_AND_ABORT ≡ 0x05
  pub register_and_ignore_existing_key : REGISTER_AND_IGNORE_EXISTING_KEY ≡ 0x06
  pub aptpl : APTPL ≡ 0x01
  pub all_tg_pt : ALL_TG_PT ≡ 0x04
  pub spec_i_pt : SPEC_I_PT ≡ 0x08
  pub desc : DESC ≡ 0x01

-- sense keys, additional sense codes and qualifiers (SPC-4, 'Sense key and additional sense code definitions'; 'Fixed format sense data')
pub record SenseCodesAgree : Type 0 where
  pub no_sense : NO_SENSE ≡ 0x00
  pub illegal_request : ILLEGAL_REQUEST ≡ 0x05
  pub unit_attention : UNIT_ATTENTION ≡ 0x06
  pub no_additional_sense_information : NO_ADDITIONAL_SENSE_INFORMATION ≡ 0x00
  pub parameter_list_length_error : PARAMETER_LIST_LENGTH_ERROR ≡ 0x1a
  pub invalid_command_operation_code : INVALID_COMMAND_OPERATION_CODE ≡ 0x20
  pub logical_block_address_out_of_range : LOGICAL_BLOCK_ADDRESS_OUT_OF_RANGE ≡ 0x21
  pub invalid_field_in_cdb : INVALID_FIELD_IN_CDB ≡ 0x24
  pub invalid_field_in_parameter_list : INVALID_FIELD_IN_PARAMETER_LIST ≡ 0x26
  pub invalid_release_of_persistent_reservation : INVALID_RELEASE_OF_PERSISTENT_RESERVATION ≡ 0x04
  pub power_on : POWER_ON ≡ 0x2900
  pub reservations_preempted : RESERVATIONS_PREEMPTED ≡ 0x2a03
  pub reservations_released : RESERVATIONS_RELEASED ≡ 0x2a04
  pub registrations_preempted : REGISTRATIONS_PREEMPTED ≡ 0x2a05
  pub fixed_format : FIXED_FORMAT ≡ 0x70

-- lengths in bytes, and how many I_T nexuses there may be
pub record LengthsAgree : Type 0 where
  pub most_nexuses : MOST_NEXUSES ≡ 16
  pub six_byte_cdb : SIX_BYTE_CDB ≡ 6
  pub ten_byte_cdb : TEN_BYTE_CDB ≡ 10
  pub most_cdb_length : MOST_CDB_LENGTH ≡ 16
  pub parameter_list_length : PARAMETER_LIST_LENGTH ≡ 24
  pub fixed_sense_length : FIXED_SENSE_LENGTH ≡ 18
  pub additional_sense_length : ADDITIONAL_SENSE_LENGTH ≡ 10
  pub header_length : HEADER_LENGTH ≡ 8
  pub key_length : KEY_LENGTH ≡ 8
  pub reservation_length : RESERVATION_LENGTH ≡ 16
  pub reservation_data_length : RESERVATION_DATA_LENGTH ≡ 24
  pub most_data_length : MOST_DATA_LENGTH ≡ 136
